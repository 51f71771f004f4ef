use Rattle.std.proofs.Common.{◌≡◌, drop}
use Rattle.wild_plan_rules.specs.Indexes.{range_out_of_order}
use Rattle.wild_clauses.proofs.indexes.range_out_of_order.Given as goal

abbrev pub invariant-loop-i : goal.invariant-loop-i
invariant-loop-i l = range_out_of_order l.end l.i (drop l.i l.groups) ≡ range_out_of_order 0 0 l.groups
