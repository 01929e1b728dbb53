pub mod Acts
pub mod Made
pub mod Sent
pub mod Hears
