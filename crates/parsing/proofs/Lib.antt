-- Laws of the two readers.
pub mod Exponents
pub mod Readers
pub mod Fitting
