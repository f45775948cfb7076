pub mod ServeLemmas
pub mod KeepLemmas
pub mod ChangeLemmas
pub mod RunLemmas
pub mod ReadLemmas
pub mod QueryLemmas
pub mod OtherLemmas
pub mod NewestLemmas
