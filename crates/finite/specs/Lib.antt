pub mod Within
pub mod Halving
pub mod Sums
pub mod Each
pub mod Run
