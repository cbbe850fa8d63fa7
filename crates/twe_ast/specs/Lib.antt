pub mod Expression
pub mod Precedence
pub mod Statement
pub mod inner
