-- Laws that the proofs of functions cite.
pub mod Cases
pub mod Parts
