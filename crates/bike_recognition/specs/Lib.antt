pub mod Added
pub mod Names
pub mod Recognition
pub mod Rowids
pub mod Wanted
pub mod EarlierVersions
