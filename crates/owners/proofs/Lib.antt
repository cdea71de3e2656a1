pub mod Least
pub mod Rows
pub mod Faults
pub mod Gap
pub mod Lookup
pub mod Answers
pub mod Tables
pub mod Written
