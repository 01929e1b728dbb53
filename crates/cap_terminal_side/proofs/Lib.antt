pub mod Sending
pub mod Settling
pub mod Opening
pub mod Acting
