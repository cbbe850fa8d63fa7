-- Lists of numbers and rows: members, places, and how many elements pass a test.
pub mod lists
-- What stands in each state that a run comes to: rows, links and counts, through the parts of a move.
pub mod standing
-- The links of waits and parents: they are those that the rows say, in order, and chains of waits stay.
pub mod links
-- The weight of a state, which each move lowers.
pub mod weight
-- How often each thing happens in a journal.
pub mod counts
-- What a move does to its own task and leaves of the others.
pub mod tasks
-- Replays and outcomes.
pub mod replays
