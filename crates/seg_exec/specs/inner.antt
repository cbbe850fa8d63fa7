pub mod Faulting
pub mod Finished
pub mod steps
pub mod strides
