pub mod Numbers
pub mod Ten
pub mod Counts
pub mod Shifts
pub mod Ranges
pub mod Signs
pub mod Edges
