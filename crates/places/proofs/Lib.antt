-- Laws that several proofs of `places` cite.
pub mod Signed
pub mod Bounds
