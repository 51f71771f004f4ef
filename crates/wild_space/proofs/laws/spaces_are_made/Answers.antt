use Rattle.wild_space.proofs.BoundLemmas.{spaces_made}
use Rattle.wild_space.proofs.laws.spaces_are_made.Goals as goal

pub returns : goal.returns
returns c = spaces_made
