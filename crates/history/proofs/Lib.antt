pub mod Lasting
pub mod Reasons
pub mod Along
pub mod Lent
pub mod RecordByRecord
pub mod Theorems
