pub mod Elements
pub mod Rotation
