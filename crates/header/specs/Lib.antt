pub mod Header
pub mod Accepted
pub mod Moves
pub mod Rows
pub mod Attempts
pub mod Passed
