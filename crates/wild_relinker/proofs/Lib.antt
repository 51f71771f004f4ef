pub mod SwapLemmas
pub mod FindLemmas
pub mod RoleLemmas
pub mod ChangedFaultLemmas
pub mod PreparedLemmas
pub mod ImageLemmas
