pub mod Showing
pub mod Theorems
