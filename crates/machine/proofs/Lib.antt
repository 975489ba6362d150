pub mod RegisterLaws
pub mod StateLaws
pub mod ActCases
pub mod PlanLaws
pub mod Laws
pub mod StoreLaws
pub mod AnswerLaws
pub mod MarkedLaw
