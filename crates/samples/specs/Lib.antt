pub mod Sample
pub mod Meaning
pub mod Rows
pub mod Bounds
pub mod Nearest
pub mod Scales
