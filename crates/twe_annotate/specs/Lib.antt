pub mod Verdicts
pub mod Texts
pub mod Kept
pub mod Compared
pub mod Words
pub mod Answers
