pub mod Answer
pub mod Depends
pub mod First
pub mod Asks
pub mod Statements
