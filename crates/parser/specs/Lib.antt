pub mod TermRows
pub mod Machine
