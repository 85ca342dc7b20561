pub mod Parts
pub mod SideBySide
pub mod Groups
