pub mod Walled
pub mod Statements
