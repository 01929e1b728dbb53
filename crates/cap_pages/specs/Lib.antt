pub mod Pages
pub mod Reading
pub mod Cache
pub mod Paged
pub mod OfPages
