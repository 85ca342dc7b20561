pub mod Pairs
pub mod Adding
pub mod PairSums
pub mod PairLaws
