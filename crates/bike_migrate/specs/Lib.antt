pub mod Calls
pub mod Spared
pub mod Stations
pub mod Raised
pub mod Verdicts
pub mod Raising
