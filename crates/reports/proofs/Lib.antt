mod Stored
pub mod Telling
