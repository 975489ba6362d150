pub mod Codes
pub mod Decode
pub mod Encode
pub mod Fits
pub mod Editions
