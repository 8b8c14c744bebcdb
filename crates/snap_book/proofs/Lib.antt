pub mod Keeping
pub mod Rooted
pub mod Commits
pub mod Viewing
mod Asking
pub mod Promises
pub mod Applying
mod Saving
