pub mod Words
pub mod Lines
pub mod Differences
pub mod Answers
