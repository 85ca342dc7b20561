pub mod Terms
pub mod Steps
pub mod Totals
pub mod PairedTotals
pub mod TermSums
pub mod TermLaws
