pub mod Answer
pub mod Binds
pub mod Statements
