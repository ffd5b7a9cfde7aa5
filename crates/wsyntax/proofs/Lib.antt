pub mod Gaps
pub mod Ranges
pub mod Segments
