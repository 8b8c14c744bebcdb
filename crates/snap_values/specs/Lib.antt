pub mod Values
pub mod Written
pub mod Calls
pub mod WrittenCalls
