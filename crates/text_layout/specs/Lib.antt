pub mod Classes
pub mod Fitting
pub mod Layout
pub mod Settled
pub mod InLayout
pub mod Kinds
