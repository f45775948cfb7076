pub mod Infos
pub mod StationCounts
pub mod After
pub mod Pages
pub mod Spans
pub mod Requests
