pub mod Certifying
pub mod CheckLaws
pub mod Continuations
pub mod CertificateReading
