use Rattle.wild_slots.proofs.StandLemmas.{pair}
use Rattle.wild_slots.proofs.pair_is_placed.Goals as goal

pub returns : goal.returns
returns c = λ l h some at e. pair l h some at e
