use Rattle.wild_loader.proofs.MovedLemmas.{images-moved, images-back}
use Rattle.wild_loader.proofs.laws.images_are_moved.Goals as goal

pub returns-clause-moved : goal.returns-clause-moved
returns-clause-moved c = images-moved

pub returns-clause-read : goal.returns-clause-read
returns-clause-read c = images-back
