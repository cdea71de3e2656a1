pub mod Layout
pub mod Pins
