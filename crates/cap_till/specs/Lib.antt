pub mod Language
pub mod Printed
