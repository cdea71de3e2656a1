pub mod Owners
pub mod Bytes
pub mod Answers
