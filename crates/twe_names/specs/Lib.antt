pub mod BodyMeaning
pub mod PathMeaning
pub mod Meaning
pub mod FromText
pub mod Resolves
pub mod inner
