pub mod Ahead
mod Words
mod Parts
mod Declarations
mod Named
mod Tagged
mod Steps
mod Loop
pub mod Answers
mod Modules
