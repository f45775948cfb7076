pub mod Rows
pub mod RowFaults
