pub mod Pieces
pub mod Ends
pub mod Files
pub mod Closing
pub mod Looks
pub mod Links
pub mod Pages
