pub mod ReversedWords
pub mod FrameInputs
pub mod PlacedSections
pub mod PlacedInputs
pub mod Plain
