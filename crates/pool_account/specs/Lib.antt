pub mod Account
pub mod Statements
