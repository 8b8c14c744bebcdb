pub mod Halving
pub mod Sent
