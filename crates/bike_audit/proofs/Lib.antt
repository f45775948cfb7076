mod AuditLemmas
pub mod ToldLemmas
pub mod AdoptLemmas
pub mod FoundLemmas
mod AdoptToldLemmas
pub mod LookLemmas
