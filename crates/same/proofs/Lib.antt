mod Words
mod Contents
mod Declarations
mod Prefixes
mod ModuleTables
mod SameModules
mod Loaded
mod SameAsked
pub mod Exactly
