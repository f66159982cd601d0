pub mod Abstraction
pub mod Statements
