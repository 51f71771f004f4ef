pub mod BlockLemmas
pub mod ClauseLemmas
pub mod CoverLemmas
pub mod SlotPlaceLemmas
