pub mod Adding
pub mod Back
pub mod Earliest
pub mod FrontLemmas
pub mod Givers
pub mod HighestChain
pub mod Tops
pub mod Walk
