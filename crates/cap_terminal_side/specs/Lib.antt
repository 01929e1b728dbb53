pub mod Prefixes
pub mod Keeping
pub mod Sides
pub mod Arriving
