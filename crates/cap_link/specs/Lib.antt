pub mod Lines
pub mod Pieces
pub mod Naming
pub mod MemLink
