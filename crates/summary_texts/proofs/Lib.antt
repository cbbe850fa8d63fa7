-- Bytes and lexemes: the text with other summaries.
pub mod AllowedBytes
pub mod Finding
pub mod Taking
pub mod Whole
-- Clauses, trees, and what is read again.
pub mod Accepted
pub mod Ascending
pub mod Blanks
pub mod Causes
pub mod Fitting
pub mod Inserting
pub mod LineClauses
pub mod OneLine
pub mod Ordering
pub mod PastedTree
pub mod SameEffects
pub mod SameNeeds
pub mod SameNews
pub mod SameSteps
pub mod SameTree
pub mod Unchanged
