pub mod Creating
pub mod Ending
pub mod Changing
