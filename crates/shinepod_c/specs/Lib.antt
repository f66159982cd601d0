pub mod Outcome
pub mod Fresh
pub mod Shown
