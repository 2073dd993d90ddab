pub mod Quantisers
pub mod Stored
pub mod Values
