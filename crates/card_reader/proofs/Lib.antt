pub mod FirstItems
pub mod ReadLoop
