pub mod Fields
pub mod Fronts
pub mod Digits
pub mod Fits
pub mod Parts
pub mod Taken
pub mod Feeds
