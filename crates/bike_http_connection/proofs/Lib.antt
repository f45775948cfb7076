pub mod Settling
pub mod Awaiting
pub mod Complete
pub mod Sending
pub mod Reading
pub mod Beginning
