pub mod Filters
pub mod Kinds
pub mod Labels
pub mod Updates
pub mod Records
pub mod Cut
