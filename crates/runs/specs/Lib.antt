pub mod Calls
pub mod Blocks
pub mod Runs
pub mod Lengths
