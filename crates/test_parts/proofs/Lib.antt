pub mod Worked
mod Counted
