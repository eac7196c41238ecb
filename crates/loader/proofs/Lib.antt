mod Parsing
pub mod WellRead
pub mod Cleared
pub mod Fronts
mod Resolving
mod Stored
pub mod Left
mod ParsedTables
pub mod Statements
