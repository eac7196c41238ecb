mod Tokens
mod Takes
mod TermSteps
pub mod Forms
mod Printable
pub mod Numerals
mod Identifiers
mod Terms
mod Declarations
mod Modules
mod Source
mod PlainText
mod Repeated
mod Short
mod Again
mod Begins
pub mod ReadRows
pub mod TextRows
mod Meanings
pub mod Canonical
mod ReadBack
pub mod RoundTrip
pub mod Refusals
pub mod NeverFull
pub mod Spelling
mod Examples
pub mod Statements
