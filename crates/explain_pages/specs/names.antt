pub mod Sentences
pub mod Variables
pub mod Declaring
pub mod Needed
pub mod Named
