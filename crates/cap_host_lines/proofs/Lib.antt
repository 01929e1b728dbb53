pub mod Steps
pub mod Reading
pub mod Doing
pub mod Logs
pub mod Keeping
