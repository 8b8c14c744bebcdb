pub mod Done
pub mod Exit
pub mod Logged
pub mod Program
pub mod Replayed
pub mod Tasks
pub mod Words
