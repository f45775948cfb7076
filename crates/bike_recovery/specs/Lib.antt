pub mod Recovery
pub mod Losses
pub mod Unraised
pub mod Reopening
pub mod Files
pub mod SessionsServed
