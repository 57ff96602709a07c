-- Laws that the proofs of several functions cite.
pub mod Calling
pub mod Meaning
