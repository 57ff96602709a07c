pub mod Numbers
pub mod Records
pub mod Refusals
pub mod Calls
pub mod Meaning
