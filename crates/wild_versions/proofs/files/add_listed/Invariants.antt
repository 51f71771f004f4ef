use Rattle.std.proofs.Common.{◌≡◌, ◌++◌, drop, map}
use Rattle.wild_table_formats.specs.VersionRoom.{IsFull}
use Rattle.wild_table_formats.specs.SymbolVersions.{version_bytes, exported_version}
use Rattle.wild_versions.proofs.files.add_listed.Given as goal

abbrev pub invariant-loop-symbol : goal.invariant-loop-symbol
invariant-loop-symbol l = record {
  full : IsFull l.filled;
  rest : l.filled.bytes ++ version_bytes (map exported_version (drop l.symbol-index l.symbols)) ≡ l.initial.filled.bytes ++ version_bytes (map exported_version l.symbols);
}
