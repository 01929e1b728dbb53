pub mod Fields
pub mod Codes
pub mod Refused
pub mod Sales
