pub mod SamePlace
