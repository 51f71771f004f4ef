use Rattle.std.proofs.Common.{◌≡◌, ◌-◌, ◌≤◌, true, length, take, All}
use Rattle.wild_plan_rules.specs.SegmentCoverage.{loads_nothing_from}
use Rattle.wild_clauses.proofs.loaded_bytes.pass.Given as goal

abbrev pub invariant-loop-next : goal.invariant-loop-next
invariant-loop-next l = (l.next ≤ length l.segments) × All (λ g. loads_nothing_from l.address g ≡ true) (take l.next l.segments)

abbrev pub decreases-loop-next : goal.decreases-loop-next
decreases-loop-next l = length l.segments - l.next
