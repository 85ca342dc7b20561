pub mod Converting
pub mod EditionLaws
pub mod Writing
pub mod Judged
pub mod Causes
pub mod Sizes
pub mod RefusalNumbers
