pub mod AnswerLaws
pub mod Below
pub mod Laws
pub mod Far
