pub mod Unread
pub mod Readers
pub mod RequestReaders
pub mod Spelling
pub mod Lines
