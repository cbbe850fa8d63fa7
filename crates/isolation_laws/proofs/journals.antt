-- The invariant.
pub mod Invariant
-- A segment that makes no task keeps it.
pub mod PutBackKeeps
pub mod EndsKeep
-- A segment that makes a task keeps it.
pub mod MakersRow
pub mod MakeKeepsPaths
pub mod MakeKeeps
-- So do all segments, and admissions. The induction over the journal.
pub mod SegmentKeeps
pub mod AdmissionKeeps
pub mod Journals
