pub mod Logs
pub mod Found
