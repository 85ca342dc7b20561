-- Theorems of `screening` that fall where a definition of specs/ is wrong, and what rests on them.
pub mod JoinCauses
pub mod JoinLaws
pub mod Joins
pub mod RefusalNumbers
pub mod ScalingLaws
