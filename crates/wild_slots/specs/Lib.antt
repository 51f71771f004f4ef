pub mod Order
pub mod SlotPlaces
pub mod AscendingPlaces
pub mod Blocks
pub mod Entries
