pub mod Places
pub mod PlacesLaws
pub mod CapturedLaws
pub mod Periods
pub mod Noted
pub mod NotedLaws
