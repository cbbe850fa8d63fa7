-- How the laws of this crate are proved: one invariant, `Kept` (Invariant), and for each event a lemma that the event keeps
-- it. Each file uses only files that stand above it here.

-- The tree, and effects at their places.
pub mod TreeLemmas
pub mod EffectLemmas
-- The invariant, and what it says of a walk's stack and of what an activity has been past.
pub mod Invariant
pub mod StackLemmas
pub mod StageLemmas
-- Locks are taken and given, and no record changes.
pub mod PutLemmas
pub mod MoveLemmas
-- A record is placed, for a task to be admitted and for a spawned child; a record is taken out.
pub mod RecordLemmas
pub mod FamilyLemmas
pub mod ChildLemmas
pub mod RemoveLemmas
-- The tasks change: what a segment does to yielding, when the invariant stays, and each entry and step on a turn.
pub mod LinkLemmas
pub mod TaskLemmas
pub mod ConditionLemmas
pub mod AdmissionLemmas
pub mod EntryLemmas
pub mod SegmentLemmas
-- The quiet states, and the induction over events.
pub mod QuietLemmas
pub mod EventsKeep
