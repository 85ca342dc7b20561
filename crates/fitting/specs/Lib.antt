pub mod Fitting
pub mod FittingLaws
