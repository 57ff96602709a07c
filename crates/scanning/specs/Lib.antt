pub mod Exponents
pub mod Room
