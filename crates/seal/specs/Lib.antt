pub mod Seal
pub mod Contexts
pub mod Steps
