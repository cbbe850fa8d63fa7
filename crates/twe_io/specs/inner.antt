pub mod Filling
