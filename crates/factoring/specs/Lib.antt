pub mod TargetProduct
pub mod ProductLetters
