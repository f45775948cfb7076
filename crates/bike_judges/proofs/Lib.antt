mod ShowLemmas
mod Forms
mod TieLemmas
mod SelfJoinLaw
mod RowTexts
mod SortedLaw
mod SortedTexts
mod JoinTexts
mod TwoJoinTexts
mod UnionTexts
mod UnionOfThreeTexts
mod RowSteps
mod StepLemmas
pub mod FoldOrder
pub mod LineLaw
pub mod StretchLaw
pub mod LeastLaw
pub mod ApartLines
pub mod QueryLaws
pub mod ReadsLaw
pub mod Lookups
pub mod SumLaws
mod OneRow
mod Moments
mod ArchivedLaw
