pub mod Pricing
pub mod Counting
