pub mod PartLaws
pub mod TokenLaws
pub mod LineLaws
pub mod ImmediateLaws
pub mod Laws
pub mod JoinedLaws
pub mod EndedLaws
