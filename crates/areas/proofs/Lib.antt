pub mod ByteLaws
pub mod Messages
