pub mod TableLemmas
pub mod KeyLemmas
pub mod MakesLemmas
pub mod AnswerLemmas
pub mod CountLemmas
pub mod ReadLemmas
mod RunLemmas
pub mod MakeTexts
pub mod IndexLemmas
pub mod MakeFacts
pub mod InsertTexts
pub mod MakeLemmas
pub mod GrowthLemmas
mod FreshLemmas
mod ColumnLemmas
pub mod ListedLemmas
pub mod WithinLaw
