pub mod RunLaws
pub mod Steps
pub mod Witnesses
