pub mod Marks
pub mod Sums
