pub mod TextReading
pub mod TextGrammar
pub mod Statements
