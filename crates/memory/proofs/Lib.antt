pub mod Puts
pub mod Parts
pub mod Blocks
pub mod Memories
pub mod PoolSteps
pub mod Repeated
pub mod Tickets
