pub mod Pieces
pub mod inner
