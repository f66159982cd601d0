mod Accessor
pub mod LayoutLaws
pub mod WordLaws
pub mod Zero
pub mod Currents
pub mod FreshLaws
pub mod LentLaws
