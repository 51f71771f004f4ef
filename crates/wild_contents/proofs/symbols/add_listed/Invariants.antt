use Rattle.std.proofs.Common.{◌≡◌, ◌++◌, drop, map}
use Rattle.wild_table_formats.specs.DynamicEntries.{listed, entries_at}
use Rattle.wild_table_formats.specs.Symbols.{symbol_bytes}
use Rattle.wild_contents.proofs.symbols.add_listed.Given as goal

abbrev pub invariant-loop-symbol : goal.invariant-loop-symbol
invariant-loop-symbol g l = l.bytes ++ symbol_bytes (entries_at l.at (map (listed l.resolved.layout.now) (drop l.symbol-index l.symbols))) ≡ l.initial.bytes ++ symbol_bytes (entries_at l.initial.at (map (listed l.resolved.layout.now) l.symbols))
