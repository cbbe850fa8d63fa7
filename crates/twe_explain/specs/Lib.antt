pub mod Words
pub mod Alone
pub mod Runs
pub mod Inputs
