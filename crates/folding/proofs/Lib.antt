pub mod Filed
pub mod Keeping
pub mod Sweeping
pub mod Laying
pub mod Tracing
pub mod Starting
