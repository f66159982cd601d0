pub mod Sinking
pub mod Inserting
pub mod Filling
pub mod Tasks
