pub mod NextMessage
pub mod Parts
pub mod Room
