mod FirstBytes
mod ValidFrom
mod Sequences
mod Pairs
mod Passed
mod Runs
mod Mark
pub mod Longest
pub mod Beginnings
