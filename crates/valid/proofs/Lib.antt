pub mod Objects
pub mod Waiters
pub mod Arrivals
pub mod Currents
pub mod Shown
pub mod Check
