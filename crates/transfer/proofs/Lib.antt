pub mod Storing
pub mod Serving
pub mod Sending
