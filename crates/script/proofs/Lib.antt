pub mod Signed
pub mod Appending
pub mod Padding
pub mod Making
pub mod Rows
pub mod Reading
pub mod Writing
pub mod RoundTrip
