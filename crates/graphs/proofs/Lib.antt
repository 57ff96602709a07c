pub mod Joined
pub mod Steps
pub mod Paths
pub mod Folds
pub mod Walks
pub mod FirstFold
pub mod Loops
pub mod Deciding
