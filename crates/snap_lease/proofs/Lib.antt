pub mod CountLemmas
pub mod DropLemmas
pub mod IndexLemmas
pub mod LeaseLemmas
pub mod ListLemmas
pub mod NumberLemmas
pub mod ToldLemmas
pub mod Walks
