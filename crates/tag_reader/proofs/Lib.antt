pub mod Place
pub mod Chunks
