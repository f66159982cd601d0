pub mod Table
pub mod Boards
pub mod Statements
