pub mod Acts
pub mod BareTrees
pub mod BarePrograms
pub mod Alike
pub mod Texts
