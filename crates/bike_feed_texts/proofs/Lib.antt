pub mod Objects
pub mod Arrays
mod Names
pub mod Frames
pub mod Languages
