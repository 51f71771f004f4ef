pub mod ListLemmas
pub mod PatchLemmas
pub mod ValueLemmas
pub mod ByteLemmas
pub mod ReadLemmas
pub mod LoadLemmas
