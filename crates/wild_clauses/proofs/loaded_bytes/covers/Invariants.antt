use Rattle.std.proofs.Common.{◌≡◌, drop}
use Rattle.wild_plan_rules.specs.SegmentCoverage.{covers}
use Rattle.wild_clauses.proofs.loaded_bytes.covers.Given as goal

abbrev pub invariant-loop-segment : goal.invariant-loop-segment
invariant-loop-segment l = covers l.side l.layout l.section l.reached (drop l.segment-index l.segments) ≡ covers l.side l.layout l.section l.section.address l.segments
