pub mod Answers
pub mod ModuleWords
pub mod Reads
pub mod Parts
