pub mod Answer
pub mod Comparison
pub mod Statements
pub mod inner
