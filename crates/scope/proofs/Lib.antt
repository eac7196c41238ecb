mod Search
pub mod Locals
pub mod Index
