pub mod Simulated
pub mod Limits
