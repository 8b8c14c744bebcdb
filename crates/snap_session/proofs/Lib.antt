pub mod Moving
pub mod Opening
pub mod Entries
pub mod Serving
pub mod Asking
pub mod Keeping
pub mod ResumeLaws
pub mod Batching
mod Carrying
mod Applying
mod Paging
mod Restoring
mod Told
mod TreePages
mod TreeLaws
pub mod Whole
pub mod ToldLaws
