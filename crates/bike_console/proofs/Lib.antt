mod OpenLemmas
pub mod PieceLemmas
