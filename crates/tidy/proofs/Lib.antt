-- Laws of the call tidy, which the proofs of several functions cite.
pub mod Calls
pub mod Meaning
