mod Bytes
mod Atoms
mod Every
mod Lookup
mod Slots
pub mod Names
pub mod Reserved
pub mod Comparison
