pub mod Digits
pub mod Places
mod Shared
