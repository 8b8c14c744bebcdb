pub mod Places
mod Standing
mod Summing
mod Ends
mod Steps
mod Hold
mod Does
pub mod Fitting
pub mod Applying
mod Opened
mod Rounds
pub mod Putting
mod Running
mod PutBack
mod Whole
mod Ending
mod InTurn
mod BackWorld
mod HeldLaws
