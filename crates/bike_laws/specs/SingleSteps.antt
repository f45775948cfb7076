pub mod Accepted
pub mod Numbers
pub mod Laws
