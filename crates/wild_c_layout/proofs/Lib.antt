pub mod LayoutLemmas
pub mod FaultLemmas
