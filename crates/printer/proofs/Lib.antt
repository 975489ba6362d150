pub mod LineLaws
pub mod DecimalLaws
pub mod Laws
pub mod AsciiLaws
