pub mod Cells
pub mod Rows
pub mod Fitting
pub mod Examples
