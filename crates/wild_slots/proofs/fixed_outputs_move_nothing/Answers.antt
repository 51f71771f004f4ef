use Rattle.wild_slots.proofs.EntryLemmas.{moves_nothing}
use Rattle.wild_slots.proofs.fixed_outputs_move_nothing.Goals as goal

pub returns : goal.returns
returns c = λ l f. moves_nothing l f
