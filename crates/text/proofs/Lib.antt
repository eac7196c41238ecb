mod Digits
mod Putting
pub mod Writing
