pub mod Quantisers
pub mod Rows
pub mod Differences
