pub mod Disk
pub mod Moments
pub mod Switch
pub mod History
pub mod Survivor
pub mod Recorded
pub mod MemoryDisk
