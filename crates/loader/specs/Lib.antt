pub mod Leaving
pub mod Parsed
pub mod Statements
pub mod inner
