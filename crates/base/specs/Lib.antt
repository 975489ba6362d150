pub mod Choice
pub mod Order
pub mod Numbers
pub mod Words
pub mod Addresses
pub mod Told
pub mod Bytes
pub mod Names
