pub mod Scans
pub mod DeviceLaws
pub mod PlaceLaws
pub mod SoundLaws
pub mod Laws
pub mod KeptLaws
pub mod Orders
