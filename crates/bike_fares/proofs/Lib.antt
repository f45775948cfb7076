pub mod DueLemmas
pub mod CountLemmas
pub mod SumLemmas
pub mod BoundLemmas
