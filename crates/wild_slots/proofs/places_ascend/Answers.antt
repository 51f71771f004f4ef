use Rattle.wild_slots.proofs.PlacesLemmas.{ascending}
use Rattle.wild_slots.proofs.places_ascend.Goals as goal

pub returns : goal.returns
returns c = λ l h small. ascending l h small
