pub mod ClassNumbers
pub mod ClassTable
pub mod Runs
mod Comments
pub mod ClassRuns
pub mod Outcomes
pub mod Bounds
pub mod Parentheses
pub mod Local
pub mod Numbers
pub mod Apart
pub mod Chunks
mod Blocks
mod CommentBlocks
mod SpaceBlocks
