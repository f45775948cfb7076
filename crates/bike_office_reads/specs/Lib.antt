pub mod Accounts
pub mod Collect
pub mod Newest
pub mod ReadRows
