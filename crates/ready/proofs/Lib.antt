pub mod BitLaws
pub mod ReadyLaws
pub mod KeptLaws
