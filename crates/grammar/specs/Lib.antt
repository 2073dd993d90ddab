pub mod Reads
pub mod Run
pub mod Widths
pub mod Values
