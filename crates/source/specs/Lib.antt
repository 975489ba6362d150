pub mod Words
pub mod Source
pub mod Marks
pub mod Promises
