pub mod Entries
pub mod History
pub mod Changes
pub mod Open
