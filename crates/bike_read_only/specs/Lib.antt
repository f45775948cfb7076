pub mod Held
pub mod Either
pub mod Files
