pub mod Stores
pub mod FirstExample
