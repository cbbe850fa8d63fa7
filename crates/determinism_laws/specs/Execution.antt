-- The segments of a task and of the tasks below it, in the order in which sequential code executes them.
use Rattle.std.specs.Prelude.{◌≡◌, ◌≢◌, ◌≤◌, ◌<◌, ◌+◌, ◌++◌, ℕ, suc, ℤ, List, [], ◌∷◌}
use Rattle.seg_journal.specs.declared.journal.End.TheVariants as entry_ends
use Rattle.seg_journal.specs.declared.journal.Entry.{Entry}
use Rattle.twe_base.specs.Limits.{Bounds}
use Rattle.twe_program.specs.Program.{Program}
use Rattle.machine_state.specs.declared.state.TaskRow.{TaskRow}
use Rattle.machine_state.specs.declared.state.TaskStatus.TheVariants.{Done, Made}
use Rattle.machine_state.specs.Rows.{HasStatus, IsRow}
use Rattle.machine_state.specs.Runs.{state_after}
use Rattle.determinism_laws.specs.Deterministic.{IsDeterministic}
use Rattle.determinism_laws.specs.Orders.{SegmentAccesses}
use Rattle.determinism_laws.specs.Ranks.{IsBelow}
use Rattle.determinism_laws.specs.Segments.{IsSegmentOf, Spawns, state_before}
use Rattle.determinism_laws.specs.Sequential.{AreSegmentsBelow, ExecuteAlike, IsEnabledThroughout, IsRankOrder, IsSegmentAt}

-- The entry at this place is the next segment of task u from the place `from` on.
pub record IsNextSegment (journal : List Entry) (u from place : ℕ) : Type 0 where
  pub segment : IsSegmentOf journal u place
  pub least : from ≤ place
  pub first : (n : ℕ) → from ≤ n → n < place → ¬ IsSegmentOf journal u n

-- a task that is admitted keeps its row from any place on to its next segment, which so begins with the frame that the
-- segment before it left
abbrev pub RowsStayBetweenSegments : Program → Bounds → List Entry → Type 0
RowsStayBetweenSegments p lim journal =
    (u from place : ℕ) (row : TaskRow) → IsNextSegment journal u from place → row.status ≢ Made
    → IsRow (state_before p lim journal from) u row → IsRow (state_before p lim journal place) u row

-- Sequential code executes these segments from the segment of task u at this place on, up to the end of u: a segment that
-- finishes the task, a segment that ends at a join and then what follows it, or a segment that spawns a child, then all of
-- the child from its first segment on, and then what follows.
pub data Execution (p : Program) (lim : Bounds) (journal : List Entry) : ℕ → ℕ → List SegmentAccesses → Type 0 where
  ends : (u place : ℕ) (s : SegmentAccesses) (value : ℤ) (segment : IsSegmentOf journal u place)
      → IsSegmentAt p lim journal place s
      → segment.entry.end ≡ entry_ends.Done value → Execution p lim journal u place (s ∷ [])
  joins : (u place on next : ℕ) (s : SegmentAccesses) (others : List SegmentAccesses) (segment : IsSegmentOf journal u place)
      → IsSegmentAt p lim journal place s
      → segment.entry.end ≡ entry_ends.Joins on → IsNextSegment journal u (suc place) next
      → Execution p lim journal u next others → Execution p lim journal u place (s ∷ others)
  spawns : (u place child first next : ℕ) (s : SegmentAccesses) (below others : List SegmentAccesses)
      → Spawns p lim journal u place child → IsSegmentAt p lim journal place s
      → IsNextSegment journal child (suc place) first → Execution p lim journal child first below
      → IsNextSegment journal u (suc place) next → Execution p lim journal u next others
      → Execution p lim journal u place (s ∷ below ++ others)

-- a deterministic task that is done at the end has been executed whole, from each of its segments on
abbrev pub DoneTasksAreExecuted : Program → Bounds → List Entry → Type 0
DoneTasksAreExecuted p lim journal =
    (u place : ℕ) (row : TaskRow) → IsRow (state_after p lim journal) u row → row.status ≡ Done → IsDeterministic p row
    → IsSegmentOf journal u place → (executed : List SegmentAccesses) × Execution p lim journal u place executed

-- Take the execution of task t from its first segment on, and any entries of the journal among which all segments below t
-- are. The execution has these segments, each once, in the order of their ranks.
abbrev pub ExecutionsAreInRankOrder : Program → Bounds → List Entry → Type 0
ExecutionsAreInRankOrder p lim journal =
    (t first from count : ℕ) (segments executed : List SegmentAccesses)
    → IsNextSegment journal t 0 first → Execution p lim journal t first executed
    → AreSegmentsBelow p lim journal t from count segments
    → ((i : ℕ) → IsBelow p lim journal t i → (from ≤ i) × (i < from + count))
    → IsRankOrder p lim journal t segments executed

-- The execution of task t, which has this row, from its first segment on, and the segments below t that are among these
-- entries of the journal: these are the same segments, the execution has them in the order of their ranks, and executed in
-- this order, on the cells as they were before these entries, they find what they found in the journal, and leave and
-- print what it has after these entries.
pub record IsExecutedAlike (p : Program) (lim : Bounds) (journal : List Entry)
    (t : ℕ) (row : TaskRow) (first from count : ℕ) : Type 0 where
  pub segments : List SegmentAccesses
  pub executed : List SegmentAccesses
  pub listed : AreSegmentsBelow p lim journal t from count segments
  pub execution : Execution p lim journal t first executed
  pub order : IsRankOrder p lim journal t segments executed
  pub alike : ExecuteAlike p lim journal row from count segments executed

-- so it is for each deterministic task that is done at the end, and for entries before each of which it is enabled, if they
-- begin no later than its first segment, and it is done after them
abbrev pub DoneTasksExecuteAlike : Program → Bounds → List Entry → Type 0
DoneTasksExecuteAlike p lim journal =
    (t first from count : ℕ) (row : TaskRow) → IsRow (state_after p lim journal) t row → row.status ≡ Done
    → IsDeterministic p row
    → IsNextSegment journal t 0 first → from ≤ first → IsEnabledThroughout p lim journal t from count
    → HasStatus (state_before p lim journal (from + count)) t Done → IsExecutedAlike p lim journal t row first from count
