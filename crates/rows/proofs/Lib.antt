pub mod Arities
pub mod Words
pub mod Storing
pub mod Covering
