-- Laws that the proofs of several functions cite.
pub mod Systems
pub mod RoundTrip
pub mod Arrays
pub mod Factors
pub mod Pairs
