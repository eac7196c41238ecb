pub mod HeadLocal
pub mod Good
pub mod Marked
pub mod Search
pub mod Refusals
pub mod Ample
pub mod Meaning
pub mod Statements
