pub mod CallsTold
pub mod Fronts
