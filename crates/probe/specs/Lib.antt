pub mod Answers
pub mod Headers
pub mod Runs
