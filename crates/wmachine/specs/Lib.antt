pub mod Arguments
pub mod Fuel
pub mod Calls
pub mod Starts
