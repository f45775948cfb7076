pub mod Length
pub mod Head
pub mod Table
