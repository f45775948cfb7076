pub mod Escaping
pub mod Levels
pub mod Names
pub mod OneText
pub mod Reading
pub mod Rows
pub mod Series
