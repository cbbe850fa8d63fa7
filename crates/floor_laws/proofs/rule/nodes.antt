-- How the laws of this crate are proved. Each file uses only files that stand above it here.

-- Lists, and who holds a node once a seat does something else.
pub mod Lists
pub mod Holding
-- Locks and contents, once a node was locked or unlocked.
pub mod Locking
-- What the seats know of tasks, and what that says in the core.
pub mod KnownTasks
pub mod Passing
-- The steps on locks as events.
pub mod LockEvents
-- What a record that was placed or removed changes, and these steps as events.
pub mod Counts
pub mod Records
pub mod RecordEvents
-- What seats learn, and admission.
pub mod Facts
pub mod Bars
pub mod OwnRecords
-- The steps of the floor on turns and seats: the tasks of the core once a turn was set, and these steps as events.
pub mod TaskChanges
pub mod TurnEvents
pub mod Takings
pub mod SeatSteps
pub mod LastMade
pub mod EntryTasks
pub mod EntryEvents
pub mod EntryCases
pub mod AdmitFloor
pub mod AdmitEvents
-- Starts, and quiet points.
pub mod Rests
pub mod Quiet
