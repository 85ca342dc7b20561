pub mod RowFits
pub mod Matrix
pub mod Markings
pub mod MatrixLaws
