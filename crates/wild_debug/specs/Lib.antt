pub mod Rules
pub mod Fields
