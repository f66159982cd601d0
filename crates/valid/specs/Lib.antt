pub mod Tests
pub mod Agree
pub mod Parts
pub mod Check
pub mod Shown
