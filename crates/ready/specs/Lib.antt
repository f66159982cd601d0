pub mod Tasks
pub mod Statements
