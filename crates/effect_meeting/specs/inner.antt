-- The elements of several paths, side by side.
pub mod Aligned
pub mod Columns
pub mod CellLines
