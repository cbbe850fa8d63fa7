pub mod SimpleTokens
pub mod Listed
