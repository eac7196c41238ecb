mod Clearing
pub mod Storing
pub mod Stored
