pub mod Worlds
pub mod References
pub mod Symbols
pub mod Worked
pub mod DebugFile
pub mod MixedFile
pub mod CopyFile
pub mod Joined
