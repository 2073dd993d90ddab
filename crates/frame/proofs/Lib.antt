pub mod Twelve
pub mod Whole
