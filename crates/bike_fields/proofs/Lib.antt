pub mod Lengths
pub mod Callers
pub mod Names
pub mod Vehicles
pub mod NameKinds
