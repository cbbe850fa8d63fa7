-- the stop of a segment, by the end of its entry
pub mod Stops
-- executions of the journal are played
pub mod Played
-- steps find what their segments found in the journal
pub mod Finds
-- a deterministic task that is done has been elided
pub mod Elided
-- the tasks of an execution are different, and within the limit
pub mod Numbered
-- a task that a move made has the arguments of the make
pub mod NewArguments
-- the first segment of a task starts from its first frame
pub mod FirstSegments
-- what the steps print
pub mod Printing
