pub mod Searching
pub mod NetWords
pub mod SearchLaws
pub mod Causes
