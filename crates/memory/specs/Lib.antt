pub mod Zeros
pub mod Buffered
pub mod PoolHistory
pub mod Pools
