use Rattle.wild_placer.proofs.Common.{◌∙◌, sym, ap, load}
use Rattle.wild_placer.proofs.PlaceLemmas.{is_placed}
use Rattle.wild_placer.proofs.code.place_whole.Goals as goal

pub returns-in-Ok-load_image : goal.returns-in-Ok-load_image
returns-in-Ok-load_image g c =
    is_placed c.args.layout.now c.args.world.now c.in-Ok-load_image.memory c.in-Ok.ensures.faults (sym (ap (load c.args.world.now) (c.as_slice.ensures ∙ c.in-Ok.ensures.image)) ∙ c.in-Ok-load_image.ensures.memory)
