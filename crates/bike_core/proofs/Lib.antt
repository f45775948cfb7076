pub mod Views
pub mod Moves
pub mod Rentals
pub mod Orders
pub mod Marks
pub mod Stations
