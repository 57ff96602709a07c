pub mod Tracing
pub mod Meaning
