pub mod MovedExpression
pub mod MovedStatement
pub mod MovedTree
pub mod MovedProgram
