pub mod Takes
pub mod Does
pub mod Sends
pub mod Numbers
pub mod Plain
pub mod Counts
