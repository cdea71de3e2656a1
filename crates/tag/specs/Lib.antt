pub mod TagString
pub mod Forms
pub mod Elements
pub mod Answers
