pub mod Numbers
pub mod Disks
pub mod Openings
