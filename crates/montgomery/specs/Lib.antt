pub mod Montgomery
