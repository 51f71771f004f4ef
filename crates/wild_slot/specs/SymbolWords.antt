-- The slots of a symbol: the words, the stub, and the fault that ended them.
--   slots_of l s       the words, the stub, and the fault
use Rattle.std.specs.Prelude.{Option, Some, None}
use Rattle.wild_types.specs.declared.symbol.Resolution.{Resolution}
use Rattle.wild_types.specs.declared.symbol.Symbol.{Symbol}
use Rattle.wild_types.specs.declared.layout.Layout.{Layout}
use Rattle.wild_slot.specs.Slots.{SlotContent, setting_of, slot, no_slot}
use Rattle.wild_slot.specs.MachineStub.{distance_if_too_far}

abbrev pub resolved_slots : Layout → Option Resolution → SlotContent
resolved_slots l None = no_slot
resolved_slots l (Some r) = slot (setting_of l) (distance_if_too_far l r) r

-- the slots of a symbol; none without a resolution
unfoldable pub slots_of : Layout → Symbol → SlotContent
slots_of l s = resolved_slots l s.resolution
