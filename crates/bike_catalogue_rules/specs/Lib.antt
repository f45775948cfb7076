pub mod Tests
pub mod OneRow
pub mod Names
