pub mod Tidy
pub mod Meaning
