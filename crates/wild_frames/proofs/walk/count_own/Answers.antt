use Rattle.std.proofs.Common.{drop, ap, ◌∙◌}
use Rattle.std.proofs.lemmas.List.{take_rest}
use Rattle.wild_frames.specs.Walks.{spot_state}
use Rattle.wild_frames.proofs.WalkLemmas.{own_of}
use Rattle.wild_frames.proofs.walk.count_own.Goals as goal

pub returns : goal.returns
returns g c =
    own_of (g.F.FrameSource.frames c.args.frames.now) (spot_state c.args.spot.now) c.args.spot.now.relocation c.args.end c.count_before.result _
    (take_rest c.relocations.result.now c.args.spot.now.relocation ∙ ap (drop c.args.spot.now.relocation) c.relocations.ensures)
    c.requires.fits c.requires.end c.count_before.ensures.within c.count_before.ensures.own c.count_before.ensures.later
