pub mod Listing
pub mod Said
pub mod Parts
