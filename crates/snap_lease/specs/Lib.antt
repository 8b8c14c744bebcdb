pub mod Index
pub mod Lease
pub mod Leases
pub mod Live
pub mod Marks
pub mod Numbers
pub mod Reach
pub mod Told
