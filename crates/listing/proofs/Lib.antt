pub mod Example
mod Atoms
mod Shown
pub mod Fits
pub mod Moving
