pub mod RowTerm
pub mod Machine
pub mod Loadable
pub mod Declarations
