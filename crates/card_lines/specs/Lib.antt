pub mod Lines
pub mod Stream
pub mod Calls
