pub mod Objects
pub mod Written
