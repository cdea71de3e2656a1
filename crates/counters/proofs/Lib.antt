pub mod PermutationCounts
pub mod Bounds
