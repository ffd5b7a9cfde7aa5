pub mod Number
pub mod Reading
pub mod Arithmetic
pub mod OperatorLaws
pub mod OperatorEdges
