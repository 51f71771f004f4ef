pub mod SlotTables
pub mod Rooms
pub mod Verify
pub mod SlotLaws
