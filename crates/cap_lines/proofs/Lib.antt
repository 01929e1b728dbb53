pub mod Parting
pub mod Holds
pub mod Giving
pub mod Turning
