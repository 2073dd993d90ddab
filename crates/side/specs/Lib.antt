pub mod Bands
pub mod Side
pub mod Below
pub mod Info
pub mod Values
pub mod Widths
pub mod Rows
pub mod Callers
