-- A beginning of a journal, and its makings.
pub mod Beginnings
-- The first effect that clashes.
pub mod Clashing
-- The legal moves that were found up to a task.
pub mod Found
-- The first entry of a journal that met a fault.
pub mod FirstFaults
-- The snapshot of a segment that ends with a fault.
pub mod SnapshotsThere
