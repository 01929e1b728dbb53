pub mod Views
pub mod Moments
pub mod CodeLists
pub mod ReadBack
pub mod DatesBack
pub mod LeavesBack
pub mod UtcDays
