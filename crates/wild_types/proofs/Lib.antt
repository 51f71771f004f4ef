pub mod FileLemmas
pub mod ListLemmas
pub mod PartLemmas
pub mod LookupLemmas
