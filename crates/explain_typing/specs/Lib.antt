pub mod Typed
pub mod Causes
