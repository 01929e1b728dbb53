pub mod Texts
pub mod Ready
pub mod Settling
pub mod Opening
pub mod Powers
pub mod Begun
pub mod Told
