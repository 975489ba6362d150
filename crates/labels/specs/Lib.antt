pub mod Labels
pub mod Opens
