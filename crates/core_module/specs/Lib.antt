pub mod CoreText
pub mod SameText
pub mod Escapes
pub mod Statements
