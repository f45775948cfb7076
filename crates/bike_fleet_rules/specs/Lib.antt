pub mod Counted
pub mod Loads
pub mod Tests
pub mod Docks
