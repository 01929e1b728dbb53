pub mod Texts
pub mod Says
pub mod Acts
pub mod Logs
