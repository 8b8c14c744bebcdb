pub mod Effects
pub mod Lines
pub mod Transcripts
pub mod Runs
pub mod Words
