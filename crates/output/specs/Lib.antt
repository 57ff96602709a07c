pub mod Output
pub mod Meaning
