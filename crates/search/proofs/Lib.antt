pub mod Searches
pub mod Sums
pub mod Blocks
pub mod Senders
