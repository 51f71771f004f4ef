-- What is known of a slot that a reference names.
--   slot_holds   memory has there what a slot of that sort has
use Rattle.wild_meaning.proofs.Common.{ℕ, Some, Slot, Layout, Memory, World, IsSlot}
use Rattle.wild_meaning.specs.Slot.{HoldsSlot}

pub slot_holds : (sort : Slot) (l : Layout) (w : World) (m : Memory) (i g : ℕ) → IsSlot sort l w m (Some i) g → HoldsSlot sort l w m i g
slot_holds sort l w m i g h = h.holds
