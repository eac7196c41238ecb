pub mod Program
pub mod Moved
pub mod Promises
