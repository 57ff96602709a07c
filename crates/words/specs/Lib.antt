pub mod Alphabet
pub mod Words
pub mod Buffers
pub mod Writers
pub mod Below
pub mod Pairs
