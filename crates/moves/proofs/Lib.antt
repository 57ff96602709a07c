-- Laws that the proofs of several functions cite.
pub mod Logging
pub mod LogBack
pub mod LogOfMoves
