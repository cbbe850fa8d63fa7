-- states that differ by their first fault have the same cycles
mod Cycles
-- results
mod Results
-- answers by outcomes
mod AnswersAlike
-- the books of runs
mod Books
