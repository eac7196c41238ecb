pub mod Formats
pub mod Answers
pub mod Expects
pub mod FormOfWord
pub mod Tokens
pub mod Terms
pub mod Lines
