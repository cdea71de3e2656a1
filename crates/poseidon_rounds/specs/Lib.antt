pub mod Places
pub mod Instance
pub mod PlainSums
pub mod Linear
pub mod Sparse
pub mod Tests
pub mod Tables
