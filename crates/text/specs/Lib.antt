pub mod Names
pub mod Numbers
pub mod Quoted
pub mod Place
pub mod Item
pub mod Line
pub mod Turn
pub mod Whole
