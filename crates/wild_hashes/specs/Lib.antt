pub mod Tables
pub mod Reading
pub mod LookUp
pub mod Image
pub mod Laws
pub mod ImageTables
