pub mod Surely
pub mod Raising
pub mod Terminals
pub mod Hosts
pub mod Reporting
pub mod Starting
pub mod Doing
