pub mod Pushing
pub mod Overlays
pub mod Survivals
