pub mod Checksums
pub mod Adding
pub mod Detection
