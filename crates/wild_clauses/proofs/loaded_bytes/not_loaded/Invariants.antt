use Rattle.std.proofs.Common.{◌≡◌, ◌+◌, ◌≤◌, true, length, take, drop, All}
use Rattle.wild_plan_rules.specs.SegmentCoverage.{loads_nothing_from}
use Rattle.wild_types.specs.Lists.{first_failing}
use Rattle.wild_plan_rules.specs.Segments.{bytes_are_loaded}
use Rattle.wild_clauses.proofs.loaded_bytes.not_loaded.Given as goal

abbrev pub invariant-loop-i : goal.invariant-loop-i
invariant-loop-i l = record {
  there : l.next ≤ length l.segments;
  passed : All (λ g. loads_nothing_from l.low g ≡ true) (take l.next l.segments);
  rest : first_failing (bytes_are_loaded l.side l.layout l.segments) (l.i + 1) (drop l.i l.later) ≡ first_failing (bytes_are_loaded l.side l.layout l.segments) 1 l.later;
}
