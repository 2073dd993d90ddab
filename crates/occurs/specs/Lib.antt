pub mod Occur
pub mod Strict
