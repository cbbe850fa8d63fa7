pub mod Behind
pub mod Causes
pub mod Open
pub mod inner
