pub mod Refusals
pub mod Commands
pub mod Replies
pub mod ReplyReaders
pub mod RequestFields
pub mod Requests
