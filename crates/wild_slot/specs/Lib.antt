pub mod MachineStub
pub mod SlotParts
pub mod Slots
pub mod Storage
pub mod Stub
pub mod StubAArch64
pub mod SymbolWords
pub mod Treatment
