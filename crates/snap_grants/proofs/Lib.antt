pub mod Weights
pub mod Staying
pub mod Law
pub mod Origins
pub mod Tapes
pub mod Worked
