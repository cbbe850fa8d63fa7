pub mod Answers
pub mod Causes
pub mod Due
pub mod Input
pub mod Running
pub mod Starting
pub mod Theorem
pub mod inner
