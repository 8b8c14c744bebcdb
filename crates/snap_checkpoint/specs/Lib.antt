pub mod Pieces
pub mod Gathered
pub mod Lines
