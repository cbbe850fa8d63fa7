-- Method calls, expressions and statements, by cases.
pub mod Calls
pub mod Expressions
pub mod Statements
-- What remains of a body after a task operation, and so a whole segment.
pub mod Remainders
-- What remains of the body of a task that may run is fine for each child that is out.
pub mod ChildrenOut
