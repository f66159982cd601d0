pub mod Running
pub mod Writing
pub mod Turning
pub mod Theorems
