use Rattle.wild_slots.proofs.StandLemmas.{stands}
use Rattle.wild_slots.proofs.slots_are_placed.Goals as goal

pub returns : goal.returns
returns c = λ l h i at s e g. stands l h i at s e g
