-- How the laws are proved. Each part of the rule speaks of few parts of the floor, so a step has to be looked at only where
-- it changes one of these. Each file uses only files that stand above it here.

-- Functions of which one value was set, and the turns of seats.
pub mod Puts
pub mod TurnLemmas
-- What a seat may run, what accesses leave in cells, and segments that are open at the same time.
pub mod RunLemmas
pub mod AccessLemmas
pub mod SegmentLemmas
-- The steps on turns, phases and seats.
pub mod TurnSteps
-- The steps on cells.
pub mod CellSteps
-- Entries.
pub mod EntryLemmas
pub mod EntrySteps
-- The log with each step.
pub mod RuleSteps
-- Starts and quiet points.
pub mod QuietLemmas
-- The value of a done task, which its frame has.
pub mod DoneValues
-- What holds after each journal: the first fault, and what the rows of tasks say beside their slots.
pub mod Along
pub mod FirstFaults
pub mod PlainRows
pub mod ShownRows
-- What a segment knows of the cells that it has touched.
pub mod LastTouches
