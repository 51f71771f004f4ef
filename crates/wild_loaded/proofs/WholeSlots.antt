-- The slots of a layout without faults.
use Rattle.wild_layout.proofs.FaultLemmas.{slots_of_groups}
use Rattle.wild_loaded.specs.Laws.{SlotsAreThere}

pub slots_there : SlotsAreThere
slots_there = λ l keeps flags laid none. record {
  order = record { slots = laid.slots; flags = laid.slot_flags; resolved = flags; files = laid.files };
  whole = slots_of_groups l keeps none;
}
