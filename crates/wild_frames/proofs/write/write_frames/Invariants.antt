use Rattle.std.proofs.Common.{◌-◌, length}
use Rattle.wild_frames.specs.Walks.{IsWritten}
use Rattle.wild_frames.proofs.write.write_frames.Given as goal

abbrev pub invariant-loop-walk : goal.invariant-loop-walk
invariant-loop-walk g l = IsWritten (g.F.FrameSource.frames l.frames) l.walk l.out

abbrev pub decreases-loop-walk : goal.decreases-loop-walk
decreases-loop-walk g l = length (g.F.FrameSource.frames l.frames).bytes - l.walk.at
