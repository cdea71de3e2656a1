pub mod Permutations
pub mod Positions
