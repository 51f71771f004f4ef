pub mod Answers
pub mod LoadFaultOf
pub mod WorldOf
