use Rattle.std.proofs.Common.{◌≡◌, drop}
use Rattle.wild_clauses.specs.SymbolIndexes.{groups_walk}
use Rattle.wild_clauses.proofs.symbol_indexes.walk_groups.Given as goal

abbrev pub invariant-loop-group : goal.invariant-loop-group
invariant-loop-group l = groups_walk l.layout l.next (drop l.group-index l.groups) ≡ groups_walk l.layout 0 l.groups
