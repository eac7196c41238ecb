pub mod Heads
pub mod Texts
