pub mod Status
pub mod Head
pub mod Bodies
pub mod Sent
