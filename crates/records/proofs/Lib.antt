-- Laws of the records and the refusals, which the proofs of several functions cite.
pub mod Filling
pub mod Chains
pub mod Rules
pub mod Targets
pub mod RoundTrip
pub mod ByNumber
