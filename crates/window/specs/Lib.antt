pub mod Window
pub mod Output
pub mod Source
pub mod Prototype
