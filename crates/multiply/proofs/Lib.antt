-- Laws of a product's letters and of the call multiply, which the proofs of several functions cite.
pub mod SlotLetters
pub mod Multiplying
pub mod Calls
