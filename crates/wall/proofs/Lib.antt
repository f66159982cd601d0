pub mod Ending
pub mod Theorems
