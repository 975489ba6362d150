pub mod CallLaws
pub mod RangeLaws
pub mod LoadLaws
pub mod TextLaws
pub mod Demand
pub mod Means
pub mod Back
pub mod Refused
