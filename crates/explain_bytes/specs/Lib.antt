pub mod Locations
pub mod Shells
