pub mod Texts
pub mod Pair
pub mod Replacing
