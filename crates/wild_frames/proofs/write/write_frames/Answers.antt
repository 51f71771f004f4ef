use Rattle.wild_frames.proofs.WriteLemmas.{written_start}
use Rattle.wild_frames.proofs.write.write_frames.Goals as goal

pub loop-walk-init : goal.loop-walk-init
loop-walk-init g c = written_start (g.F.FrameSource.frames c.args.frames.now) c.args.first c.args.out.now c.requires.first c.requires.room
