pub mod Causes
pub mod Completeness
