pub mod BestChains
pub mod Built
pub mod Chains
pub mod LastBefore
pub mod Nodes
pub mod inner
