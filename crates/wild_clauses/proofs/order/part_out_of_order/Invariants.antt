use Rattle.std.proofs.Common.{◌≡◌, drop}
use Rattle.wild_plan_rules.specs.Places.{part_out_of_order}
use Rattle.wild_clauses.proofs.order.part_out_of_order.Given as goal

abbrev pub invariant-loop-i : goal.invariant-loop-i
invariant-loop-i l = part_out_of_order l.layout l.i l.end (drop l.i l.parts) ≡ part_out_of_order l.layout 0 0 l.parts
