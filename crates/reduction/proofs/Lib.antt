-- Laws that the proofs of several functions cite.
pub mod Calls
pub mod RoundTrip
pub mod Bound
pub mod Meaning
