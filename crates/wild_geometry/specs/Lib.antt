pub mod EntryKinds
pub mod MachineFacts
pub mod Loaded
pub mod Slots
pub mod Thunks
pub mod PlacedSections
pub mod Carried
pub mod OwnedBytes
