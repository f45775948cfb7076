pub mod Escapes
pub mod Names
pub mod Front
pub mod Strings
pub mod Tree
pub mod Outputs
pub mod State
pub mod Rows
