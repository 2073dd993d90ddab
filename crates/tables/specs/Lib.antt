pub mod Standard
pub mod Source
pub mod Laws
pub mod Differences
pub mod Rows
