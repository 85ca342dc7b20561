pub mod Screening
pub mod Screens
pub mod Causes
pub mod RefusalNumbers
pub mod ScreenLaws
pub mod Joins
pub mod JoinLaws
pub mod ScalingLaws
