pub mod Better
pub mod Arriving
