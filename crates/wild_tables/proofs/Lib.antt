pub mod TableLemmas
pub mod WordTableLemmas
pub mod SlotLemmas
pub mod PlacedLemmas
