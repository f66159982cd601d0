pub mod Branches
pub mod Rows
pub mod Deletion
pub mod Stored
