pub mod Creating
pub mod Deleting
pub mod Locking
pub mod Unlocking
