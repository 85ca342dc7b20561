pub mod Columns
pub mod StoringLaws
pub mod ReplayLaws
