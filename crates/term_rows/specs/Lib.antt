pub mod TermRows
