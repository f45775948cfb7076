pub mod Program
pub mod Feeds
pub mod Raises
pub mod Words
pub mod Days
pub mod History
pub mod Imports
pub mod Files
