pub mod OneFrame
pub mod Begun
pub mod Pieces
pub mod Closed
pub mod Passed
pub mod Running
pub mod Texts
