mod Classes
pub mod Runs
pub mod Outcomes
pub mod Bounds
pub mod Parentheses
pub mod Ends
pub mod Apart
