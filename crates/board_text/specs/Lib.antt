pub mod Cell
pub mod Column
pub mod Table
pub mod Tables
pub mod Wall
