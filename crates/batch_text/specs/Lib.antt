pub mod Calls
pub mod LineFaults
pub mod Ends
pub mod Reading
pub mod Totals
pub mod Parts
pub mod Slices
pub mod Args
