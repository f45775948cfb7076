pub mod Tables
pub mod Rows
pub mod Ended
pub mod Writing
