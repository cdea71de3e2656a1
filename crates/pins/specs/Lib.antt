pub mod Logic
pub mod Lists
pub mod Owners
pub mod Tags
pub mod Hash
pub mod Generator
pub mod Places
pub mod Cards
