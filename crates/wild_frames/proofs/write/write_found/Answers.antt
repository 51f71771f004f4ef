use Rattle.std.proofs.Common.{◌∙◌}
use Rattle.wild_frames.proofs.WriteLemmas.{length-kept}
use Rattle.wild_frames.proofs.write.write_found.Goals as goal

pub write_entry-requires-clause-room : goal.write_entry-requires-clause-room
write_entry-requires-clause-room g c = c.requires.room ∙ length-kept (g.F.FrameSource.frames c.args.frames.now) c.args.found.now c.in-Kept.entry c.in-Kept.is c.requires.lies
