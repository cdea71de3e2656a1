pub mod Sponge
pub mod Steps
pub mod Counted
