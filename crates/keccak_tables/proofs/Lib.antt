pub mod TablesByRule
