pub mod Permutation
pub mod Steps
