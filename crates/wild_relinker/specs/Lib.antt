pub mod Answer
pub mod Changed
pub mod Find
pub mod Linked
