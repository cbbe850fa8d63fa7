pub mod Answered
pub mod Cutting
pub mod OneBatch
