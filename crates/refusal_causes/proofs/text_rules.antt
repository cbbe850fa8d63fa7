pub mod Causing
pub mod Counting
pub mod Lines
pub mod Tokens
pub mod Walks
pub mod Ways
