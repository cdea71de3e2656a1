pub mod RoundTrip
pub mod Inverse
pub mod NoteRun
pub mod Refusals
