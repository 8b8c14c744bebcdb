pub mod Names
mod Turning
mod Placed
pub mod Since
pub mod Law
mod Pages
