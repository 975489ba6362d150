pub mod OperandLaws
pub mod RegisterLaws
pub mod NumberLaws
pub mod Laws
pub mod ReferLaws
pub mod SayLaws
