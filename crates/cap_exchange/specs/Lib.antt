pub mod Exchange
pub mod Hearing
