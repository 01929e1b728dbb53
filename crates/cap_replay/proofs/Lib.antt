pub mod Premises
pub mod Written
pub mod Adding
pub mod MadeRange
pub mod Accounts
