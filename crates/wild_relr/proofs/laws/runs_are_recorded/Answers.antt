use Rattle.wild_relr.proofs.PackedLemmas.{after_places-recorded}
use Rattle.wild_relr.proofs.laws.runs_are_recorded.Goals as goal

pub returns : goal.returns
returns c = λ s ps f h. after_places-recorded ps s f h
