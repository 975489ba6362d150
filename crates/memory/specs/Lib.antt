pub mod Bytes
pub mod Words
pub mod Program
pub mod Blocks
