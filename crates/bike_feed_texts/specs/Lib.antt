pub mod Feeds
pub mod Elements
pub mod Trees
pub mod Writing
