use Rattle.std.proofs.Common.{ap, ◌∙◌}
use Rattle.std.specs.Prelude.{slice_set}
use Rattle.std.proofs.lemmas.List.Edits.{map_over_more}
use Rattle.wild_placement.specs.PlacedSections.{moved_relocation}
use Rattle.wild_placement.proofs.kept_frames.move_all.Goals as goal

pub loop-i-preserved : goal.loop-i-preserved
loop-i-preserved c =
    ap (λ r. slice_set c.loop-i.relocations c.loop-i.i r) c.moved_relocation.ensures
    ∙ map_over_more (moved_relocation c.args.entry.now) c.args.relocations.now c.loop-i.relocations c.loop-i.i c.index-relocations-i.result c.loop-i-test.true c.loop-i.invariant c.index-relocations-i.is
