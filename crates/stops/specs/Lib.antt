pub mod Positions
pub mod Replay
pub mod Searching
pub mod Reached
pub mod Onward
