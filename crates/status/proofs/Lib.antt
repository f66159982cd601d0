pub mod Numbers
pub mod Sound
pub mod Waits
pub mod Messages
pub mod Blocks
pub mod Blanks
