mod Scheduling
pub mod Finishing
pub mod Visiting
mod Running
mod Rooms
mod Steps
mod TermLoop
mod Answers
pub mod Alike
pub mod RowWords
pub mod TableRows
pub mod ResolvedTrees
pub mod TreeRows
pub mod ModuleRows
mod ModuleLoop
