pub mod Pattern
pub mod Opening
pub mod Steps
pub mod Pass
pub mod Answers
