pub mod Adding
pub mod Ledger
pub mod Laws
pub mod Appended
