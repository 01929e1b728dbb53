pub mod Counting
pub mod Feeding
