pub mod Refusing
pub mod Replying
pub mod Conditions
pub mod Creations
pub mod Deletions
