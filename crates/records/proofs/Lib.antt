pub mod Whole
pub mod Worded
pub mod Written
