pub mod Fields
pub mod Words
pub mod Gives
pub mod Members
pub mod Written
pub mod Read
pub mod Back
