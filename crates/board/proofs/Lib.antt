pub mod Rule
pub mod RowKinds
pub mod Theorems
