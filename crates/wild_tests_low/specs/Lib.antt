pub mod Examples
pub mod Shards
