pub mod Causes
pub mod Leaving
pub mod Passing
pub mod Forgetting
pub mod Tables
pub mod LogNumbers
