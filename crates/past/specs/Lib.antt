pub mod Pasts
pub mod Calls
pub mod Sound
pub mod Ring
pub mod Finite
pub mod Moves
pub mod Formats
