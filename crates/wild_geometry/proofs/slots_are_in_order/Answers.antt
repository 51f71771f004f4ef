use Rattle.wild_geometry.proofs.SlotClauses.{slots_in_order}
use Rattle.wild_geometry.proofs.slots_are_in_order.Goals as goal

pub returns : goal.returns
returns c = slots_in_order
