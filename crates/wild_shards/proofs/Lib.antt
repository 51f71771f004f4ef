pub mod CutLemmas
pub mod PartLemmas
pub mod TileLemmas
pub mod ByIndexLemmas
