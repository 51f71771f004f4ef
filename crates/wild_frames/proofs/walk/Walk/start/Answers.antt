use Rattle.std.proofs.Common.{List, refl, ap, sym, ◌∙◌}
use Rattle.wild_frames.specs.declared.entry.Cie.{Cie}
use Rattle.wild_frames.specs.Frames.{State, list_error}
use Rattle.wild_frames.proofs.WalkLemmas.{at_start}
use Rattle.wild_frames.proofs.walk.Walk.start.Goals as goal

abbrev with_cies : List Cie → State
with_cies cs = record { at = 0; to = 0; cies = cs }

pub returns : goal.returns
returns g c =
    at_start (g.F.FrameSource.frames c.args.frames.now) _ (ap list_error (sym c.relocations.ensures) ∙ sym c.list_error.ensures ∙ c.in_default.is) (ap with_cies c.new.ensures.items) refl
