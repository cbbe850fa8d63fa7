pub mod Alone
pub mod Working
pub mod inner
