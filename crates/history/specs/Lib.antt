pub mod History
pub mod LentHistory
pub mod RecordByRecord
pub mod Reasons
pub mod Statements
