pub mod Index
pub mod Shared
pub mod Listed
pub mod Live
pub mod Plain
pub mod Place
pub mod Placed
pub mod Laws
