pub mod Frames
pub mod Turns
pub mod Rates
pub mod File
