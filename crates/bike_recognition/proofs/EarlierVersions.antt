pub mod OldTexts
pub mod KeptTexts
pub mod KeptLemmas
pub mod StandsLemmas
pub mod FoundLemmas
