-- How the laws are proved. A step changes one word, at most one slot and one view; the floor that the table shows then changes
-- as the step of the floor says, and that step keeps the rule.

-- Lists of which one element was set, and the words of the floor.
pub mod Elements
pub mod Added
pub mod Words
-- The views of seats.
pub mod Views
pub mod SeatKinds
-- The steps.
pub mod Steps
pub mod Seats
-- Entries, which the clock numbers.
pub mod Clock
pub mod Entries
-- Starts and ends.
pub mod Alone
pub mod Starts
pub mod Ends
pub mod Rests
-- The steps in the form in which the calls of the table ask for them.
pub mod Calls
