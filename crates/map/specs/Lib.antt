pub mod Tables
pub mod Regions
pub mod Devices
pub mod Places
pub mod Valid
pub mod Entries
