pub mod States
pub mod Step
pub mod Back
pub mod Run
pub mod Demand
pub mod Marked
