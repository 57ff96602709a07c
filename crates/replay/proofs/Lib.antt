-- Laws that the proofs of several functions cite, and laws of the definitions for those who call replay.
pub mod Running
pub mod Calls
pub mod Accepting
