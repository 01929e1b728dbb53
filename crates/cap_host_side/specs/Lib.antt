pub mod Prefixes
pub mod Sides
pub mod Lines
