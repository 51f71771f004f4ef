use Rattle.wild_relr.proofs.PackedLemmas.{pieces-recorded}
use Rattle.wild_relr.proofs.laws.pieces_are_recorded.Goals as goal

pub returns : goal.returns
returns c = λ xs h a. pieces-recorded xs h a
