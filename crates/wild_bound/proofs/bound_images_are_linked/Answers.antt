use Rattle.wild_bound.proofs.LegalLemmas.{linked}
use Rattle.wild_bound.proofs.bound_images_are_linked.Goals as goal

pub returns : goal.returns
returns c = linked c.spaces_are_made.ensures c.bound_worlds_are_legal.ensures c.images_are_sound.ensures
