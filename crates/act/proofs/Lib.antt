pub mod Doing
pub mod Ending
pub mod Loop
pub mod Releasing
pub mod Tasks
pub mod EndingAll
