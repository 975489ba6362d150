pub mod PenLaws
pub mod NumberLaws
