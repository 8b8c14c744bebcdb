pub mod Hiding
pub mod Views
pub mod Above
pub mod Walking
pub mod Listings
pub mod Ways
pub mod Ends
pub mod Reaching
pub mod Named
pub mod Sharing
mod Parts
mod Rows
