pub mod ListLaws
pub mod FindLaws
pub mod Laws
pub mod NameLaws
