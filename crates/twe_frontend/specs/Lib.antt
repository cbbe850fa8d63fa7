pub mod Accepted
pub mod Lines
pub mod Reads
pub mod meaning
