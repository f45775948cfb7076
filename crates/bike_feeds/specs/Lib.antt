pub mod Publishing
pub mod Listings
pub mod Walking
pub mod Pages
