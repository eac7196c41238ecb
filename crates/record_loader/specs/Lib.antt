pub mod Recorded
pub mod Replies
pub mod Statements
