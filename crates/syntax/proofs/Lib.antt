-- Laws of texts.
pub mod Bytes
pub mod Scanning
pub mod Sound
pub mod Places
pub mod Parsing
pub mod Limits
pub mod Refusing
pub mod Written
