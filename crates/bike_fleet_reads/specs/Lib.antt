pub mod Holds
pub mod Fleet
