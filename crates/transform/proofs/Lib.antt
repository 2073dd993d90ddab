pub mod Halving
pub mod Source
