pub mod Patterns
pub mod Digits
