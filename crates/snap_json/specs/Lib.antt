pub mod Writer
pub mod Tokens
pub mod View
pub mod Objects
pub mod Shallow
