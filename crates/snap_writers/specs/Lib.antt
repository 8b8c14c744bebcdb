pub mod Run
pub mod Jobs
pub mod Going
pub mod Starting
