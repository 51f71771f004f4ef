pub mod Frames
pub mod Faults
pub mod Walks
pub mod Reading
pub mod Table
pub mod Passes
