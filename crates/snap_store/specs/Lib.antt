pub mod Values
pub mod Replies
pub mod Closing
pub mod Rounds
