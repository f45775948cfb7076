pub mod SumLemmas
pub mod BoundLemmas
