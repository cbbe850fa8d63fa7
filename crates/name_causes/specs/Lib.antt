pub mod Needs
pub mod Breaking
pub mod Others
pub mod Causes
pub mod inner
