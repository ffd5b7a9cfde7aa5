pub mod Floats
pub mod Functions
pub mod Fresh
pub mod Calls
pub mod Ends
pub mod Names
pub mod Readings
pub mod Alone
