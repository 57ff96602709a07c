-- Laws that the proofs of several functions cite.
pub mod Calls
pub mod Meaning
pub mod Verdicts
