pub mod Judging
pub mod AcceptCases
pub mod Acceptance
pub mod RefusalNumbers
pub mod Stopping
pub mod Reached
pub mod OldEdition
