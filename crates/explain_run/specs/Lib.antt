pub mod Exports
pub mod Starting
