-- How the laws of this crate are proved, in the order in which to read the files. Each uses only those above it.

-- A run that has met a fault has ended so; a task that is about to meet one meets it later, too.
mod Faults
-- Numbers that are exchanged twice.
mod TurnedNumbers
-- States that are the same but for the numbers of the tasks, before and after a segment.
mod AlikeStates
-- The rows after an admission; who yields to a task that was made.
mod Admissions
-- Alike states allow the same admissions, and can end in the same ways.
mod AlikeAdmissions
mod AlikeEnds
-- States with the same rows and results are one.
mod EqualStates
-- What a segment keeps of each row.
mod RowFacts
-- An admission and a segment change places.
mod AdmissionsAndSegments
-- At most one of two tasks that may run prints.
mod PrintsApart
-- Two segments change places.
mod SegmentsExchanged
-- The law of tasks that may run.
pub mod RunFirst
-- Two admissions change places.
mod TwoAdmissions
-- A task that nothing meets stays one.
mod NothingMeetsLater
-- The law of admissions.
pub mod AdmitFirst
-- Both, and each admission if no task may run.
pub mod EnoughMoves
