pub mod Manager
pub mod Reply
