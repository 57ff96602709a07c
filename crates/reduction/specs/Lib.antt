pub mod Reduction
pub mod Meaning
