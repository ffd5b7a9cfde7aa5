pub mod Repeats
pub mod RuleFaults
pub mod Imports
