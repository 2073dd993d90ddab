pub mod Sums
pub mod Run
