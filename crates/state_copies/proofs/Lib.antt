pub mod Sameness
pub mod Plain
pub mod CopiedLinks
pub mod LastingRows
pub mod MatchedRows
pub mod MatchedStates
