pub mod BranchTables
pub mod Fronts
pub mod Gives
pub mod Held
pub mod Segments
