use Rattle.std.proofs.Common.{◌≡◌, ◌+◌, drop}
use Rattle.wild_plan_rules.specs.Indexes.{symbol_indexes_fit}
use Rattle.wild_types.specs.Lists.{first_failing}
use Rattle.wild_clauses.proofs.symbol_indexes.astray_in.Given as goal

abbrev pub invariant-loop-i : goal.invariant-loop-i
invariant-loop-i l = first_failing (symbol_indexes_fit l.layout l.count) (l.first + l.i) (drop l.i l.symbols) ≡ first_failing (symbol_indexes_fit l.layout l.count) l.first l.symbols
