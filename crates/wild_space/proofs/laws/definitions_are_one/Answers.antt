use Rattle.wild_space.proofs.BoundLemmas.{definitions_one}
use Rattle.wild_space.proofs.laws.definitions_are_one.Goals as goal

pub returns : goal.returns
returns c = definitions_one
