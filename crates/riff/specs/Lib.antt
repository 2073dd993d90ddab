pub mod Level
pub mod Header
