pub mod Calls
pub mod Demand
pub mod Means
pub mod Back
