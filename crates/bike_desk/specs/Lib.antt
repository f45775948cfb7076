pub mod Newest
pub mod Desk
pub mod Serving
pub mod Kept
pub mod Runs
pub mod Queries
