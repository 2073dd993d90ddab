pub mod Readings
pub mod Pairs
