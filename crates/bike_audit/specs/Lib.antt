pub mod Audit
pub mod Watching
pub mod Adoption
