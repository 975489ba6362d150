pub mod LoopLaws
pub mod TextLaws
