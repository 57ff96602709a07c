-- Laws that the proof of show cites.
pub mod Showing
