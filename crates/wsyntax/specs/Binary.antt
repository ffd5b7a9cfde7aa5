pub mod Production
pub mod Values
pub mod Types
pub mod Instructions
pub mod Nesting
pub mod Sections
pub mod Shell
