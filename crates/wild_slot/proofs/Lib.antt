pub mod SlotLemmas
pub mod TreatmentLemmas
pub mod StubLemmas
