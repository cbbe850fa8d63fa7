pub mod Language
pub mod Limits
pub mod Lending
pub mod Stacks
pub mod Order
pub mod First
pub mod inner
