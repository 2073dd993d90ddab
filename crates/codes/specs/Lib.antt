pub mod Frame
pub mod Three
pub mod Values
pub mod Twins
pub mod Widths
pub mod Rows
