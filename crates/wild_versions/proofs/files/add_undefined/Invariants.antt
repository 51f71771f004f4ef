use Rattle.std.proofs.Common.{◌≡◌, ◌++◌, drop, map}
use Rattle.std.specs.List.{filter}
use Rattle.wild_needs.specs.DynamicSymbols.{is_undefined_entry}
use Rattle.wild_table_formats.specs.VersionRoom.{IsFull}
use Rattle.wild_table_formats.specs.SymbolVersions.{version_bytes, version_of}
use Rattle.wild_versions.proofs.files.add_undefined.Given as goal

abbrev pub invariant-loop-symbol : goal.invariant-loop-symbol
invariant-loop-symbol l = record {
  full : IsFull l.filled;
  rest : l.filled.bytes ++ version_bytes (map (version_of l.role) (filter (is_undefined_entry l.role) (drop l.symbol-index l.symbols)))
      ≡ l.initial.filled.bytes ++ version_bytes (map (version_of l.role) (filter (is_undefined_entry l.role) l.symbols));
}
