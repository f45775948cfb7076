pub mod Program
pub mod Asked
pub mod Names
pub mod BadValue
pub mod Told
pub mod Usage
