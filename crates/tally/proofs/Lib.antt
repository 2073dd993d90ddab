pub mod Adds
pub mod Turns
