pub mod Rows
pub mod Invariant
