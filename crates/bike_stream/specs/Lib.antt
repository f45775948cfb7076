pub mod Lines
pub mod Reads
pub mod Taking
pub mod Writing
