pub mod Whole
pub mod Calendar
pub mod Text
pub mod Coordinate
pub mod Day
