pub mod ClearLaws
pub mod TableLaws
