use Rattle.std.proofs.Common.{◌≡◌, ◌-◌}
use Rattle.wild_frames.specs.Passes.{reaches_offset}
use Rattle.wild_frames.proofs.pass.reaches_offset.Given as goal

abbrev pub invariant-loop-at : goal.invariant-loop-at
invariant-loop-at l = reaches_offset l.bytes l.to l.at l.to ≡ reaches_offset l.bytes l.to l.from l.to

abbrev pub decreases-loop-at : goal.decreases-loop-at
decreases-loop-at l = l.to - l.at
