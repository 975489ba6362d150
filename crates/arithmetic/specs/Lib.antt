pub mod Totals
pub mod Roots
pub mod Operators
pub mod Compares
pub mod Shifts
pub mod Flags
