pub mod Scans
pub mod Laws
