pub mod Mono
pub mod Silence
pub mod Sharp
pub mod Promises
