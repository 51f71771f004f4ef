pub mod Places
pub mod Encoding
pub mod RunWords
pub mod WriterState
pub mod Laws
