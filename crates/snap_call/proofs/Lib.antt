pub mod Lists
mod Lengths
pub mod Formed
pub mod InOrder
pub mod Entries
pub mod Joined
pub mod Groups
pub mod Chains
pub mod Sums
pub mod Alike
pub mod Lowest
pub mod Slots
pub mod Parts
pub mod Tested
pub mod Places
mod CodeLemmas
mod Searches
mod Ascending
mod Own
mod Marks
pub mod Gathered
mod Equal
mod Indexed
mod Referred
mod Committing
pub mod Leasing
pub mod Naming
pub mod Keeping
pub mod Reaching
pub mod Sweeping
pub mod Spacing
pub mod Opening
pub mod Kept
pub mod Promising
pub mod Cutting
pub mod Counts
mod Stepping
pub mod Replaying
pub mod AsMany
pub mod Totals
mod Named
pub mod Saving
pub mod ById
pub mod Older
pub mod Passing
pub mod Back
pub mod BackLeases
