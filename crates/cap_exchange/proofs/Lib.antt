pub mod Begun
pub mod Talking
