pub mod InOrder
pub mod Ranges
pub mod ByIndex
