pub mod Sets
pub mod Words
pub mod Fitting
pub mod Calling
pub mod GivingUp
pub mod AfterStart
