pub mod CollectLaws
pub mod TextLemmas
pub mod RowLemmas
pub mod SegmentLemmas
pub mod NameLemmas
pub mod NewestRows
pub mod OpenLemmas
pub mod NewestLemmas
