-- Laws that the proofs of several functions cite.
pub mod Counting
pub mod Searching
