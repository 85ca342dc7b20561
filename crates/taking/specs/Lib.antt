pub mod Takable
pub mod Prefixes
pub mod Numbering
pub mod Noting
pub mod Taking
