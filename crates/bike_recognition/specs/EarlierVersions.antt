pub mod Kept
pub mod Counts
pub mod Riders
pub mod Earlier
pub mod Stores
pub mod Found
