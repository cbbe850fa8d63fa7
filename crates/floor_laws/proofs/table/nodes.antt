-- How the laws are proved. A step on a node changes one word, at most one slot and one view, and nothing of the floor; the
-- nodes that the table shows then change as the step on nodes says, and that step keeps the rule.

-- Lists of which one element was set.
pub mod Elements
-- The log that the seats have drawn.
pub mod OneLog
-- Tables whose floor stays as it was.
pub mod Ties
-- Starts.
pub mod Starts
-- What a seat sees of the nodes.
pub mod Seen
-- Locking and unlocking.
pub mod Locks
pub mod Unlocks
-- Whether two records are the same; records without one.
pub mod Withouts
-- What lies in the slot of a node.
pub mod Contents
-- Decider words.
pub mod Deciders
pub mod Onward
-- Placing, removing, and finding that a node is clear.
pub mod Marks
-- The steps in the form in which the calls of the table ask for them.
pub mod Calls
pub mod MarkCalls
-- What the only seat finds.
pub mod Alone
-- Loading a lock word.
pub mod PassingBy
-- Loading a decider word.
pub mod Deciding
-- Loading a phase word.
pub mod Following
-- Steps of the floor.
pub mod Lifts
pub mod FloorSteps
pub mod FloorCalls
pub mod PhaseCalls
pub mod Takes
pub mod Gives
-- Entries.
pub mod SameParts
pub mod LogSteps
pub mod Entries
pub mod Admissions
-- Seats.
pub mod Splits
pub mod Joins
-- The end.
pub mod Closings
