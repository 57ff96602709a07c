pub mod Read
pub mod Write
pub mod Meaning
pub mod ReadBack
