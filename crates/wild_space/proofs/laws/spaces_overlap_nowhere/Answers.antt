use Rattle.wild_space.proofs.BoundLemmas.{overlap_nowhere}
use Rattle.wild_space.proofs.laws.spaces_overlap_nowhere.Goals as goal

pub returns : goal.returns
returns c = overlap_nowhere
