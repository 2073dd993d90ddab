pub mod Products
pub mod Stores
pub mod Source
