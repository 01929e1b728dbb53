pub mod Disks
pub mod Replays
pub mod Generator
pub mod Tallies
pub mod Made
pub mod Passed
