pub mod Decimal
mod Example
