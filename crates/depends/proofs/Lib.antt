pub mod Searching
pub mod Marks
pub mod Marking
pub mod Asking
