use Rattle.std.proofs.Common.{◌≡◌, drop}
use Rattle.wild_plan_rules.specs.Segments.{segment_out_of_order}
use Rattle.wild_clauses.proofs.segments.segment_out_of_order.Given as goal

abbrev pub invariant-loop-i : goal.invariant-loop-i
invariant-loop-i l = segment_out_of_order l.page l.i l.end (drop l.i l.segments) ≡ segment_out_of_order l.page 0 0 l.segments
