pub mod Products
pub mod Moves
pub mod Reduced
pub mod Rules
pub mod Bound
pub mod Factoring
pub mod Rank
pub mod Factors
