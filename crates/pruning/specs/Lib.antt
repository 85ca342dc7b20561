pub mod Pruning
pub mod PruneLaws
pub mod Judged
pub mod Marking
pub mod Writing
pub mod RefusalNumbers
