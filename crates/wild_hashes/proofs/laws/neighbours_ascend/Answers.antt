use Rattle.wild_hashes.proofs.FoundLemmas.{neighbours_ascend}
use Rattle.wild_hashes.proofs.laws.neighbours_ascend.Goals as goal

pub returns : goal.returns
returns c = neighbours_ascend
