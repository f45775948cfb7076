pub mod Known
pub mod Open
pub mod ViewAndDocks
pub mod Parts
pub mod StoredParts
