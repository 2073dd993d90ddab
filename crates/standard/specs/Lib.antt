pub mod Header
pub mod AudioData
pub mod Fractions
pub mod Values
pub mod Examples
