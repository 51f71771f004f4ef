pub mod SymbolIndexes
pub mod Copies
pub mod SortedOrder
pub mod FileTests
pub mod Positions
pub mod Roles
pub mod LayoutSurvey
pub mod Survey
