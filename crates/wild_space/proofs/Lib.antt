pub mod Loops
pub mod OrderLemmas
pub mod BindLemmas
pub mod CountLemmas
pub mod BoundLemmas
