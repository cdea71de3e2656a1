pub mod Reduction
pub mod Powers
