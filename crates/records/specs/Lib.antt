pub mod Records
pub mod Reasons
pub mod Answers
pub mod Refusals
pub mod Stops
