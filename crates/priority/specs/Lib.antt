pub mod Linked
pub mod Least
pub mod Effective
pub mod Own
pub mod Walk
pub mod Afresh
pub mod Unchanged
