pub mod Shown
pub mod Rows
pub mod Exchange
pub mod Telling
pub mod Again
