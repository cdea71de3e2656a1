pub mod Tables
pub mod TableRules
