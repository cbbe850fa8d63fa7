pub mod Progress
pub mod TooLong
pub mod MemReads
pub mod MemWrites
mod Read
mod Written
pub mod Answered
mod Walks
mod Through
