pub mod Membership
pub mod Meaning
