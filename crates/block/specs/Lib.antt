pub mod Entries
pub mod Pairs
pub mod Block
