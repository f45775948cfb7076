pub mod Once
pub mod Receiving
pub mod Spelled
pub mod Objects
pub mod Keys
pub mod Bounds
