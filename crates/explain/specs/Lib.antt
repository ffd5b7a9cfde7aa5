pub mod CallsTold
pub mod Forms
pub mod Headers
pub mod Placed
