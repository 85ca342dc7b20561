-- Theorems of `verdicts` that fall where a definition of specs/ is wrong, and what rests on them.
pub mod AcceptCases
pub mod Acceptance
pub mod Causes
pub mod Reached
pub mod Stopping
pub mod OldEdition
pub mod Never
