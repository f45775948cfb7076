pub mod ProgramLemmas
pub mod WordLemmas
pub mod FeedLemmas
pub mod DayLemmas
pub mod HistoryLemmas
pub mod ImportLemmas
pub mod LookLemmas
pub mod FileLemmas
