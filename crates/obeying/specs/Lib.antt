pub mod Obeying
pub mod FlagLaws
pub mod ObeyingLaws
