pub mod Retries
pub mod Answers
pub mod Money
pub mod Archiving
pub mod SingleSteps
pub mod Sessions
pub mod History
