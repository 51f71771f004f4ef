use Rattle.std.proofs.Common.{◌-◌, length}
use Rattle.wild_frames.proofs.CountLemmas.{IsCounted}
use Rattle.wild_frames.proofs.count.count_rest.Given as goal

abbrev pub invariant-loop-walk : goal.invariant-loop-walk
invariant-loop-walk g l = IsCounted (g.F.FrameSource.frames l.frames) l.walk l.fdes

abbrev pub decreases-loop-walk : goal.decreases-loop-walk
decreases-loop-walk g l = length (g.F.FrameSource.frames l.frames).bytes - l.walk.at
