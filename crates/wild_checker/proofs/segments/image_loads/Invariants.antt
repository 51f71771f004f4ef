use Rattle.wild_checker.proofs.Common.{◌≡◌, take}
use Rattle.wild_checker.specs.Segments.{image_loads}
use Rattle.wild_checker.proofs.segments.image_loads.Given as goal

abbrev pub invariant-loop-header : goal.invariant-loop-header
invariant-loop-header l = l.loads ≡ image_loads (take l.header-index l.headers)
