use Rattle.std.proofs.Common.{◌≡◌, drop}
use Rattle.wild_clauses.specs.SymbolIndexes.{all_ranges_lie}
use Rattle.wild_clauses.proofs.symbol_indexes.all_ranges_lie.Given as goal

abbrev pub invariant-loop-group : goal.invariant-loop-group
invariant-loop-group l = all_ranges_lie l.count l.end (drop l.group-index l.groups) ≡ all_ranges_lie l.count 0 l.groups
