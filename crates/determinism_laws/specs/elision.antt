pub mod Building
pub mod Elision
pub mod Printing
