pub mod Telling
pub mod Showing
