pub mod Noted
pub mod Replies
pub mod Handed
pub mod Closing
pub mod Counted
pub mod Rounds
