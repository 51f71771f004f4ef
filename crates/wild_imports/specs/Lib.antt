pub mod Imports
pub mod SymbolCount
