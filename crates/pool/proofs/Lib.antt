pub mod Creating
pub mod Deleting
pub mod Getting
pub mod Returning
