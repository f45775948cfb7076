pub mod Lines
pub mod Sums
pub mod Known
pub mod Riders
pub mod Rentals
pub mod Entries
pub mod History
pub mod Books
