-- Laws of the scans of a text.
pub mod Steps
