pub mod Members
pub mod Bodies
pub mod Asked
pub mod Received
