mod ClimbLemmas
mod PassLemmas
mod SchemaLemmas
pub mod RowidTexts
pub mod LookLemmas
pub mod StandLemmas
mod MetaTexts
pub mod EarlierVersions
