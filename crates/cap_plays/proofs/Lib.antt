pub mod Chains
pub mod Singles
pub mod Closing
pub mod Sessions
pub mod Worked
pub mod Dates
