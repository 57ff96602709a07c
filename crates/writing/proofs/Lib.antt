-- Laws of what the writer puts into a buffer.
pub mod Runs
