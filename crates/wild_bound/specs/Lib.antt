pub mod Premises
pub mod Legal
pub mod SelfBinding
pub mod Values
pub mod Worked
