pub mod Actions
pub mod Bodies
pub mod Shapes
pub mod Reading
