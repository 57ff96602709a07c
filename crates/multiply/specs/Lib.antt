pub mod SlotLetters
pub mod Multiply
