-- How the laws of this crate are proved, in the order in which to read the files.
--
-- Values and places: the variables that a statement assigns, and the path of each cell.
pub mod Assigned
pub mod CellPaths
-- What the rules on effects say of a body: each access that it may make is declared.
pub mod Declared
pub mod Static
pub mod Sound
-- What a body does when it runs: expressions, statements, and what remains of a body after a task operation.
pub mod Expressions
pub mod Statements
pub mod Resumed
-- A frame that takes an awaited value, and a whole segment: the laws.
pub mod Given
pub mod Segments
