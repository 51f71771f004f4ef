use Rattle.std.proofs.Common.{◌≡◌}
use Rattle.std.specs.Prelude.{map}
use Rattle.std.specs.List.{range_with_len}
use Rattle.wild_table_formats.specs.SectionSymbols.{symbol_index}
use Rattle.wild_symbols.proofs.map.join_indexes.Given as goal

abbrev pub invariant-loop-i : goal.invariant-loop-i
invariant-loop-i l = l.numbers.items ≡ map (symbol_index l.layout) (range_with_len 0 l.i)
