pub mod ReadingLemmas
pub mod FrontLemmas
pub mod FileLemmas
pub mod StopLemmas
pub mod SessionsLemmas
pub mod FeedLemmas
