pub mod Registers
pub mod Acts
pub mod States
pub mod Plan
pub mod Step
pub mod Stores
pub mod Marked
pub mod Moves
