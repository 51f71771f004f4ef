use Rattle.std.proofs.Common.{ap, sym, ◌∙◌}
use Rattle.wild_frames.specs.Frames.{list_error}
use Rattle.wild_frames.proofs.PassLemmas.{ready}
use Rattle.wild_frames.proofs.pass.Pass.start.Goals as goal

pub returns : goal.returns
returns g c = ready (g.F.FrameSource.frames c.args.frames.now) (ap list_error (sym c.relocations.ensures) ∙ sym c.list_error.ensures ∙ c.in_default.is)
