pub mod WordBytes
pub mod Forms
pub mod Named
pub mod Writing
pub mod CheckedString
pub mod Reading
pub mod ReadBack
