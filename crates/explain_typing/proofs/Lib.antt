pub mod Typings
pub mod Misfits
pub mod Misses
pub mod Openings
pub mod Passed
