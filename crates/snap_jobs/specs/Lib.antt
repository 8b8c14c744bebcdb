pub mod Asked
pub mod Jobs
pub mod Lines
pub mod Ends
pub mod Answer
pub mod Words
