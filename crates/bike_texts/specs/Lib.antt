pub mod Fields
pub mod Parts
pub mod Reading
pub mod Escapes
pub mod SegmentReading
pub mod Kinds
pub mod Writing
