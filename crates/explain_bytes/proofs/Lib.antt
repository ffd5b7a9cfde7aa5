pub mod Lefts
pub mod Shells
