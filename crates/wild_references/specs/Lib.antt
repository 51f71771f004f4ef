pub mod Terms
pub mod Laws
pub mod Stubs
pub mod Thunks
pub mod FilledX86_64
pub mod EffectLaws
pub mod PlainLaws
