pub mod Words
pub mod Lines
pub mod Calls
pub mod Report
pub mod Answer
