pub mod Counting
pub mod Prefixes
pub mod Images
pub mod Standing
pub mod Fates
pub mod Words
