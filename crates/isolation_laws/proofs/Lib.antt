-- How the laws of this crate are proved. The folders are in the order in which to read them: each uses only those above
-- it, and in each folder a file uses only files that stand above it.
--
-- The invariant of a run is `Kept` (journals/Invariant). Read specs/ and journals/Invariant first, and then frames/Frames, which
-- has the part of the invariant that connects a running task to the rules on effects.
--
-- From other crates these proofs take mostly the lemmas of public laws: those of wait_graph, effect_sets and
-- segment_laws, and of soundness_laws those on segments. Beside these they use:
--   the invariant of the machine (twe_machine: Standing, ReachedStands), and what a move does to rows (Halfway, OtherRows,
--     Places);
--   that control paths can be followed backwards (cover_flow: SteppingBack), and that a segment only follows them
--     (segment_laws: Leading, LeftLeading, Quiet);
--   what accepted bodies keep to when they run (soundness_laws: Sound, Expressions, Statements, CellPaths, Declared);
--   facts about members of lists (effect_check and twe_machine: Members, region_paths: Lists);
--   that the test on filled paths finds what lies within another (region_paths: Outside).

-- Effects and accesses alone: what interferes with what, and when an access spares the effects of a task.
pub mod effects
-- What the rules on effects say along a control path of a body.
pub mod paths
-- What a move does to the rows and the links of tasks, and what stays isolated.
pub mod rows
-- The frame of a running task: it is on a control path of its body, and its unjoined children are out there.
pub mod frames
-- The invariant holds in each reached state: at the start, and after each move.
pub mod journals
-- What a segment does spares the effects of each unjoined child, by cases on expressions and statements.
pub mod sparing
-- The laws of tasks that may run: their accesses are covered, and those of two tasks do not conflict.
pub mod running
-- What admission by the effect tree asks of the tasks of a state.
pub mod admission
