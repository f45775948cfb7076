pub mod ServingLemmas
pub mod AnsweringLemmas
pub mod ClientLemmas
pub mod InOrder
pub mod Playing
pub mod Networks
