pub mod Calls
pub mod Held
pub mod Owned
pub mod Run
