pub mod Numbers
pub mod Values
pub mod Names
pub mod Texts
