use Rattle.wild_references.proofs.TermKinds.{sizes_give}
use Rattle.wild_references.proofs.sizes_are_given.Goals as goal

pub returns : goal.returns
returns c = sizes_give
