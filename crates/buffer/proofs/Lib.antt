pub mod Words
pub mod Gate
