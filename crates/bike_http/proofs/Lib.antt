pub mod Shows
pub mod Told
pub mod Feeds
pub mod Ends
pub mod Again
