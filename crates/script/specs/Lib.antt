pub mod Place
pub mod Item
pub mod Body
pub mod Write
