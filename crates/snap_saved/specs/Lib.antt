pub mod Values
pub mod Saved
pub mod Named
pub mod Walked
pub mod Refusing
pub mod Limits
pub mod Restored
pub mod Pieces
