-- How the laws of this crate are proved, in the order in which to read the files. Each uses only those above it.
--
-- From other crates these proofs take the lemmas of public laws (wait_graph, effect_sets, segment_laws, twe_machine,
-- isolation_laws), and beside these: the invariant of the machine and what a move does to rows (twe_machine: Standing,
-- ReachedStands, Later, LaterStates, OtherRows, Places), and the invariant of isolation with the control paths of frames
-- (isolation_laws: journals/Invariant, frames, paths, effects).

-- The state before each entry of a journal; what stays from there to a later entry.
-- The segments below a task: what they access lies within its effects, and it is not done before them.
-- Of two segments of one task the later one has the higher number.
-- Conflicting accesses below a task are in the order of the ranks.
-- The row of a task that a move made, and the frame of a task that moved.
-- Deterministic bodies: they spawn deterministic tasks only, and get no value.
-- The futures that are out in a deterministic body stand for unjoined children; a join is of one of them.
-- So it is in each reached state: deterministic tasks wait only for deterministic tasks that they spawned.
-- Each task that has a parent was spawned by a segment of it.
-- Each segment of a task below another has one rank below that one, and each rank is of one segment.
-- While a deterministic task is enabled, tasks that are not below it spare its effects.
-- Lists alone: two orders that agree on each pair of some elements have these in one order.
-- So if two orders of segments agree on conflicts, each segment finds the same values in both.
-- While a deterministic task is enabled, the cells under its effects change by the segments below it alone.
-- The segments below a task can be listed.
-- So these segments, executed in the order of their ranks, find the values that they found in the journal.
-- The statuses of tasks between their segments; the next segment of a task, and its number.
-- Each deterministic task that is done has been executed whole.
-- An execution has all segments below its task, each once, in the order of their ranks.
-- Put together for a deterministic task that is done.
-- A task keeps its row from one of its segments to the next.
-- Each segment starts from the frame that the segment of its task before it left.
-- The value of a task is the one with which its last segment stopped.
-- The first segment of a spawned task starts from the frame that was made for it.
pub mod BodyRules
pub mod CountedResults
pub mod DepthFirst
pub mod DoneTasks
pub mod EndedAlike
pub mod EndedRuns
pub mod Exchanged
pub mod ExecutedOrder
pub mod Executing
pub mod FinalValues
pub mod FirstFrames
pub mod ForkingFrames
pub mod Forks
pub mod FramesFollow
pub mod JournalPlaces
pub mod KeptFinishing
pub mod KeptSegments
pub mod LeftAlone
pub mod ListOrders
pub mod Listing
pub mod MainRuns
pub mod MovedRows
pub mod NearFaults
pub mod NeverStrays
pub mod NeverStuck
pub mod NewTasks
pub mod OutFrames
pub mod OwnCells
pub mod RankExecution
pub mod RankLaws
pub mod RankOrder
pub mod RenumberedRows
pub mod RowNumbers
pub mod RowsBetween
pub mod SameMoves
pub mod SameValues
pub mod SegmentNumbers
pub mod Spawners
pub mod Statuses
pub mod Swaps
pub mod Trees
