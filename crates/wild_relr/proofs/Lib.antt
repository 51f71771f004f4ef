pub mod PlaceLemmas
pub mod PackingLemmas
pub mod BlockLemmas
pub mod PackedLemmas
pub mod WriterLemmas
pub mod RunLemmas
pub mod SpellLemmas
mod FitLemmas
