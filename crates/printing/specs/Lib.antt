pub mod Answer
pub mod Decimal
pub mod Printing
pub mod PrintCall
