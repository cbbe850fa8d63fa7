-- How the analysis is proved exact, for one future and then for 128 at once.
-- The fact of one future: operations, transfers along paths, marks at points, and a whole row.
pub mod FactLaws
pub mod AfterLaws
pub mod Notes
pub mod MarkedLaws
pub mod Rows
-- The words of 128 futures: operations on them, transfers (linear, so known from two facts), and marks.
pub mod WordLaws
pub mod Linear
pub mod TransferLaws
pub mod Lanes
-- The list of turns that the code builds, and the answers of the rows.
pub mod Placed
pub mod Table
-- Control paths step by step, there and back.
pub mod Stepping
pub mod SteppingBack
