pub mod Folds
pub mod SoundRecord
pub mod Answered
pub mod Numbers
pub mod Opening
pub mod Written
pub mod Buffers
