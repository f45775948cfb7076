pub mod Entries
pub mod Ledger
pub mod Money
