pub mod Files
pub mod Lines
