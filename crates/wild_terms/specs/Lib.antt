pub mod Terms
pub mod Outline
pub mod Symbolic
pub mod Values
pub mod Laws
