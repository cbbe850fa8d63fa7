-- a run that has met no fault, and the moves of a draft
pub mod Faultless
-- what every worker knows may be shared by threads
pub mod Crossing
-- a quiet step and a round of a run, as those of the crew that has the run
pub mod QuietSteps
-- a run that is lent to workers again and again
pub mod Lending
