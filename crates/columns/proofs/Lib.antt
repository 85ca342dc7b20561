-- Laws that several proofs of `columns` cite.
pub mod Moderate
pub mod Ranges
