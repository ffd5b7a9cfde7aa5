pub mod Found
pub mod Limits
