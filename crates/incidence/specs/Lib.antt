pub mod Incidence
pub mod IncidenceLaws
