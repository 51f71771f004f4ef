pub mod Change
pub mod Outline
