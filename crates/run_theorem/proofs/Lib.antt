-- How often each task was enabled.
pub mod Enablings
-- What leads from the answer of a call to the run theorem.
pub mod Headline
-- If main is deterministic, all runs of a text have one status.
pub mod OneStatus
