mod Rows
mod Example
pub mod Lengths
pub mod Unprinted
