pub mod Order
pub mod Lengths
pub mod Calls
pub mod Program
pub mod Independence
pub mod Logs
