pub mod Names
pub mod Requests
pub mod Options
pub mod Mistakes
