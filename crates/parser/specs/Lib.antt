pub mod References
pub mod Answers
pub mod Operands
pub mod Parse
