use Rattle.wild_checker.proofs.Common.{◌≡◌, take}
use Rattle.wild_checker.specs.Segments.{layout_loads}
use Rattle.wild_checker.proofs.segments.layout_loads.Given as goal

abbrev pub invariant-loop-segment : goal.invariant-loop-segment
invariant-loop-segment l = l.loads ≡ layout_loads (take l.segment-index l.segments)
