pub mod Untouched
pub mod Balance
pub mod Calls
pub mod Theorems
