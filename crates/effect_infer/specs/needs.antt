pub mod Steps
pub mod Needs
pub mod Choices
pub mod inner
