pub mod Differences
pub mod inner
