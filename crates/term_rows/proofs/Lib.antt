pub mod Counting
pub mod StoredRows
pub mod Growth
pub mod Readers
pub mod Depth
pub mod Bounds
mod Spans
