pub mod Marks
pub mod Failures
pub mod First
pub mod Parts
