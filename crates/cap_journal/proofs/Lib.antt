pub mod Groups
pub mod Readings
pub mod Sizes
pub mod Writes
pub mod Appending
pub mod Counting
