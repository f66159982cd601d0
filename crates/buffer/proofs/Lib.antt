pub mod Creating
pub mod Deleting
pub mod Receiving
pub mod Sending
