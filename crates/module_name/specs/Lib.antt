pub mod Answer
pub mod ModuleName
pub mod Statements
