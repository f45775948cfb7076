pub mod Losing
pub mod Ending
pub mod Staying
pub mod Waiting
pub mod Giving
pub mod Opening
pub mod Requests
pub mod Picking
