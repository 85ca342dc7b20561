pub mod Machine
pub mod Amounts
pub mod Words
