pub mod Gives
pub mod Ahead
pub mod Arities
pub mod Beginnings
pub mod Heads
mod Tokens
pub mod Formats
mod CoreForms
mod Indices
mod Shapes
pub mod Terms
pub mod Lines
mod Strings
mod Identifiers
