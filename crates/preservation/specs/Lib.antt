pub mod Entries
pub mod Statements
