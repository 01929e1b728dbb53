pub mod Ends
pub mod Reports
pub mod Opened
pub mod Arriving
pub mod Nowhere
