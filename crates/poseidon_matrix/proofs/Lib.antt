pub mod Laws
pub mod Rotation
