pub mod Prefix
pub mod Nodes
pub mod Growth
pub mod inner
