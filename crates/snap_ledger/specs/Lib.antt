pub mod Halves
pub mod Names
pub mod States
