pub mod Record
pub mod Soundness
pub mod Calls
pub mod Steps
pub mod Answers
