mod Common
mod Resolved
pub mod ItemLemmas
mod SlotLemmas
mod WalkLemmas
mod OrderLemmas
mod TableLemmas
mod BlockWordLemmas
mod PlaceLemmas
mod StandLemmas
mod EachLemmas
mod StubLemmas
mod AscendLemmas
mod SymbolPlaces
mod PlacesLemmas
mod BlockLemmas
mod EntryLemmas
mod KnownLemmas
