pub mod Noted
pub mod Taken
pub mod Heads
