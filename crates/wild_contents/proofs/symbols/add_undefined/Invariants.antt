use Rattle.std.proofs.Common.{◌≡◌, ◌++◌, drop, map}
use Rattle.std.specs.List.{filter}
use Rattle.wild_needs.specs.DynamicSymbols.{is_undefined_entry}
use Rattle.wild_table_formats.specs.DynamicEntries.{undefined, entries_at}
use Rattle.wild_table_formats.specs.Symbols.{symbol_bytes}
use Rattle.wild_contents.proofs.symbols.add_undefined.Given as goal

abbrev pub invariant-loop-symbol : goal.invariant-loop-symbol
invariant-loop-symbol l = l.bytes ++ symbol_bytes (entries_at l.at (map (undefined l.role) (filter (is_undefined_entry l.role) (drop l.symbol-index l.symbols)))) ≡ l.initial.bytes ++ symbol_bytes (entries_at l.initial.at (map (undefined l.role) (filter (is_undefined_entry l.role) l.symbols)))
