pub mod Listed
pub mod Sending
