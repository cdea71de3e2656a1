pub mod Lengths
pub mod Words
pub mod Steps
pub mod Merging
pub mod Fewest
pub mod Openings
