pub mod LineLaws
pub mod Laws
pub mod ShownLaws
pub mod AnswerLaws
pub mod AsciiLaws
pub mod Said
pub mod Example
