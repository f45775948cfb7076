pub mod Effects
pub mod Found
pub mod Moves
