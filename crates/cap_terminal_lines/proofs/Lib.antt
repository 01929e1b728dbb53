pub mod Steps
pub mod Cancels
pub mod Quiet
pub mod TextsAt
pub mod Hearing
pub mod Weaker
