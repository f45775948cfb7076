pub mod Asking
pub mod Settled
pub mod Awaiting
pub mod Answers
pub mod Connected
