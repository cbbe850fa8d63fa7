pub mod Spelling
pub mod Lines
pub mod Fail
pub mod Merging
pub mod inner
