-- Laws of records of numbers, which the proofs of several functions cite.
pub mod Numbers
pub mod Words
pub mod Records
pub mod Rules
pub mod Writing
pub mod Systems
pub mod RoundTrip
pub mod ThereAndBack
pub mod Meaning
