pub mod ChainLaws
pub mod MarkLaws
