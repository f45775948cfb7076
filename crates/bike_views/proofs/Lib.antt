mod LoadLemmas
pub mod OpenLaws
mod PartLemmas
mod NameLemmas
mod StoredLemmas
mod DockLemmas
