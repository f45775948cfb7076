mod SumLaw
mod TextLemmas
mod InfoLemmas
mod TypeLemmas
mod TypeOrder
pub mod CountLemmas
mod StatusLemmas
mod AfterLaw
mod LeastLaw
mod LanguageLemmas
mod SpanLaw
mod SpanLemmas
mod NextLemmas
mod GroupLaw
pub mod PageLaw
mod PageTexts
mod PageRows
mod RequestTexts
mod RequestLemmas
mod BeginLemmas
