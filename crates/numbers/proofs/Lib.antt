pub mod RangeLaws
pub mod FittingLaws
pub mod Parts
