pub mod PairLaws
pub mod ReplacingLaws
