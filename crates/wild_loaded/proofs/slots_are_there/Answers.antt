use Rattle.wild_loaded.proofs.WholeSlots.{slots_there}
use Rattle.wild_loaded.proofs.slots_are_there.Goals as goal

pub returns : goal.returns
returns c = slots_there
