use Rattle.wild_placer.proofs.LawLemmas.{placements_hold}
use Rattle.wild_placer.proofs.laws.placements_are_sound.Goals as goal

pub returns : goal.returns
returns c = placements_hold c.images_are_sound.ensures
