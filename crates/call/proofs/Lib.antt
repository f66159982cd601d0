pub mod Stepping
pub mod Calling
pub mod Dispatching
