pub mod Tapes
pub mod Sessions
pub mod Following
