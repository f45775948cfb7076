pub mod Feeds
pub mod LineLemmas
pub mod Pieces
pub mod ReadLemmas
pub mod Takings
pub mod Writes
