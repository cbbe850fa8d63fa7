pub mod Front
pub mod Kinds
pub mod Lexeme
pub mod Places
pub mod Spelling
pub mod Tokens
pub mod inner
