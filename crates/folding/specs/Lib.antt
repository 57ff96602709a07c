pub mod Filing
pub mod Sweeps
pub mod Loops
