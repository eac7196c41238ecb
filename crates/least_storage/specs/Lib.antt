pub mod Answer
pub mod Storage
pub mod Statements
