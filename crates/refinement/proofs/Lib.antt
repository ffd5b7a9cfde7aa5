pub mod TreeFound
pub mod OneTurn
pub mod Kept
