pub mod Tables
pub mod Mnemonics
