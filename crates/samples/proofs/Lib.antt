pub mod Quantisers
pub mod Shift
pub mod Bounds
