pub mod Checked
pub mod Lost
pub mod Laws
pub mod FlagLaws
