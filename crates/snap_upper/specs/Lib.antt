pub mod After
pub mod Memory
pub mod Adding
pub mod Changed
pub mod Changes
pub mod Ready
