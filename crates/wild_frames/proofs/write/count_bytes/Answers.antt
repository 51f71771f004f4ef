use Rattle.std.proofs.Common.{sym}
use Rattle.wild_frames.proofs.WriteLemmas.{length-kept}
use Rattle.wild_frames.proofs.write.count_bytes.Goals as goal

pub returns-in-Kept : goal.returns-in-Kept
returns-in-Kept g c = sym (length-kept (g.F.FrameSource.frames c.args.frames.now) c.args.found.now c.in-Kept.entry c.in-Kept.is c.requires)
